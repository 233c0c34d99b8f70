-- What holds of answers.
use Rattle.std.specs.Prelude.{Result, Ok, Err, IfOk}

pub if_ok_map : {A E : Type 0} (r : Result A E) (P Q : A → Type 0) → ((x : A) → P x → Q x) → IfOk r P → IfOk r Q
if_ok_map (Ok x) P Q f h = f x h
if_ok_map (Err x) P Q f h = tt
