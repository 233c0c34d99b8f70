use Rattle.std.proofs.Common.{◌≡◌, ◌++◌, ◌∷◌, string_bytes, drop}
use Rattle.std.specs.List.{flat_map}
use Rattle.syntect_writers.specs.Classes.{class_text, classes_text}
use Rattle.syntect_writers.proofs.class_style.push_classes.Given as goal

-- what is written, and the classes that are left, are the whole
abbrev pub invariant-loop-place : goal.invariant-loop-place
invariant-loop-place l =
    string_bytes l.out ++ flat_map (λ atom. 32 ∷ class_text l.prefix l.repository atom) (drop l.place l.scope) ≡ string_bytes l.fn.out ++ classes_text l.prefix l.repository l.scope
