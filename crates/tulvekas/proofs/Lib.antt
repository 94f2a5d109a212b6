pub mod Answering
pub mod PageAnswers
pub mod FileAnswers
pub mod SessionAnswers
pub mod CipherAnswers
pub mod SearchAnswers
pub mod Replies
