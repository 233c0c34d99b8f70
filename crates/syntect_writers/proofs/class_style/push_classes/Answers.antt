use Rattle.std.proofs.Common.{◌≡◌, ◌<◌, ◌++◌, ◌∷◌, [], List, ℕ, length, arith, lit<, ap, ◌∙◌, string_bytes}
use Rattle.std.proofs.lemmas.Str.Ascii.{encode_ascii}
use Rattle.syntect_writers.specs.Classes.{class_text}
use Rattle.syntect_writers.proofs.ClassLaws.{first_class, next_class}
use Rattle.syntect_writers.proofs.class_style.push_classes.Goals as goal

pub loop-place-init : goal.loop-place-init
loop-place-init c =
    let class : ℕ → List ℕ = class_text c.args.prefix.now c.args.repository.now in
    let some : 0 < length c.args.scope = omega (arith, c.len-count.ensures.atoms, c.if-count-eq0.false) in
    first_class class (string_bytes c.args.out.now) _ c.args.scope some (c.in_ok-push_class.ensures ∙ ap (λ (n : ℕ). string_bytes c.args.out.now ++ class n) c.atom_at.ensures)

pub loop-place-preserved : goal.loop-place-preserved
loop-place-preserved c =
    let class : ℕ → List ℕ = class_text c.args.prefix.now c.args.repository.now in
    let within : c.loop-place.place < length c.args.scope = omega (arith, c.len-count.ensures.atoms, c.loop-place-test.true) in
    let spaced : string_bytes c.push.new.self ≡ string_bytes c.loop-place.out ++ 32 ∷ [] = c.in_ok-push.ensures.bytes ∙ ap (λ (s : List ℕ). string_bytes c.loop-place.out ++ s) (encode_ascii 32 (lit< tt)) in
    next_class class (string_bytes c.loop-place.out) (string_bytes c.push.new.self) (string_bytes c.push_class-in-loop-place.new.out) c.args.scope c.loop-place.place within spaced
    (c.in_ok-push_class-2.ensures ∙ ap (λ (n : ℕ). string_bytes c.push.new.self ++ class n) c.atom_at-in-loop-place.ensures) ∙ c.loop-place.invariant
