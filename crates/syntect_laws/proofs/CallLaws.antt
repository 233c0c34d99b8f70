-- What a call reads of a printer's text.
use Rattle.std.proofs.Common.{◌≡◌, List, ℕ, Some, None, Option, Result, Ok, Err, IfOk, option_map, inl, inr, ap, ◌∙◌}
use Rattle.syntect_yaml.specs.Node.{Node}
use Rattle.syntect_yaml.specs.Yaml.{yaml_of}
use Rattle.syntect_laws.specs.YamlLaws.{IsTextOf}
use Rattle.syntect_laws.proofs.TextLaws.{line_read}
use Rattle.syntect_laws.proofs.NestLaws.{lines_read}

pub has_value : (t : List ℕ) (v : Node) → IsTextOf t v → yaml_of t ≡ Some (Some v)
has_value t v is =
    elim is.text [ inl flow ↦ ap yaml_of flow ∙ line_read is.style v is.fits is.nested | inr lines ↦ ap yaml_of lines ∙ lines_read is.style v is.fits is.nested ]

inside : {A : Type 0} (o : Option (Option A)) (a b : Option A) → o ≡ Some a → o ≡ Some b → a ≡ b
inside o a b e f = cc

pub answer_is : {A E : Type 0} (f : A → Node) (o : Option (Option Node)) (v : Node) (r : Result (Option A) E) → IfOk r (λ w. o ≡ Some (option_map f w)) → o ≡ Some (Some v) → IfOk r (λ w. option_map f w ≡ Some v)
answer_is f o v (Ok w) h e = inside o (option_map f w) (Some v) h e
answer_is f o v (Err e) h k = tt

pub not_refused : {A : Type 0} (o : Option A) (a : A) → o ≡ None → o ≡ Some a → ⊥
not_refused o a e f = cc
