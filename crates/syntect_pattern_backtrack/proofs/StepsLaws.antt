-- The answers of searches that are limited.
use Rattle.std.proofs.Common.{◌≡◌, Some, None, subst}
use Rattle.std.specs.Prelude.{Option, Result, Ok, Err, IfOk, IfSome}

-- what holds of an answer, if there is one
pub answer_map : {A E : Type 0} (r : Result (Option A) E) (P Q : A → Type 0) → ((x : A) → P x → Q x) → IfOk r (λ o. IfSome o P) → IfOk r (λ o. IfSome o Q)
answer_map (Ok (Some x)) P Q f h = f x h
answer_map (Ok None) P Q f h = tt
answer_map (Err e) P Q f h = tt

-- what holds of the answer that there is
pub answer_holds : {A : Type 0} (o : Option A) (x y : A) (P : A → Type 0) → o ≡ Some x → x ≡ y → IfSome o P → P y
answer_holds (Some z) x y P e f h = let same : z ≡ y = cc in subst P same h
answer_holds None x y P e f h = cc
