-- What inner functions ask of an answer that is a date: that four bytes hold it, as every date that the calls give.
use Rattle.calendar.specs.Calls.{Dated}
use Rattle.calendar.specs.Inner.{Small}

abbrev pub FitsBytes : Dated → Type 0
FitsBytes (Dated.dated d) = Small d
FitsBytes (Dated.refused n) = Unit
