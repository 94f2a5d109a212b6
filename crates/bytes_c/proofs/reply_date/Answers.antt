-- `bytes_c::reply_date` meets its contract: the date that is written is the caller's, of which it is required, whatever number stands for a refusal.
use Rattle.bytes_c.proofs.reply_date.Goals as goal

pub date_number-requires : goal.date_number-requires
date_number-requires g c = let h = c.requires (λ e. 0) in rw c.in_ok-d.was at h
