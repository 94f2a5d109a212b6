-- How the code holds a hash and the bytes not yet hashed.
use Rattle.ghash.specs.Machine.{bytes_of_element}
use Rattle.digest.specs.declared.Held.{Held}
use Rattle.digest.specs.Sum.{Sum}

abbrev pub sum_of : Held → Sum
sum_of d = record { hash = bytes_of_element d.acc; pending = d.pending }
