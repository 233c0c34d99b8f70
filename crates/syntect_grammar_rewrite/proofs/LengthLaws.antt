-- What is left to count, from part to part.
use Rattle.std.proofs.Common.{Option, MatchOption, IfSome, ◌≡◌, ℕ, ◌<◌, ◌≤◌, ◌+◌, List, [], ◌∷◌, ◌++◌, length, Some, None, refl, ap, ◌∙◌, arith, length-append}
use Rattle.std.specs.Prelude.{zero, suc, flat_map}
use Rattle.std.specs.Map.{lookup}
use Rattle.std.specs.Str.{bytes_eq}
use Rattle.syntect_grammar_rewrite.specs.Cutting.{parts}
use Rattle.syntect_grammar_rewrite.specs.Variables.{Variables, Part, itself, use_of, part_len, part, without, value_by, written_by, expanded_within, expanded}
use Rattle.syntect_grammar_rewrite.specs.declared.expand.Frame.{Frame}
use Rattle.syntect_grammar_rewrite.specs.Marking.{marked_value, marked_part, marked_within, marked}
use Rattle.syntect_grammar_rewrite.specs.Expanding.{inner, left, turns, BeginsWithUse}
use Rattle.syntect_grammar_rewrite.specs.Lengths.{use_mark, with_uses, length_within}
use Rattle.syntect_grammar_rewrite.proofs.ExpandLaws.{marked-none, left-write, left-close}

pub use_len : length use_mark ≡ 64
unfolding use_mark
use_len = refl

value_len : (mark : List ℕ) (us : Variables) (name : List ℕ) (o : Option (List ℕ)) → length mark ≤ length (marked_value mark (marked mark) us name o)
value_len mark us name None = omega arith
value_len mark us name (Some text) = omega (arith, length-append mark (marked mark (without name us) text))

-- what is written is counted before what is left then
pub written-counted : (vs : Variables) (fs gs : List Frame) (t u c : List ℕ) → left use_mark vs fs t ≡ c ++ left use_mark vs gs u → length (left use_mark vs fs t) ≡ length c + length (left use_mark vs gs u)
written-counted vs fs gs t u c e = ap length e ∙ length-append c (left use_mark vs gs u)

-- a use is counted, whatever its variable is
pub use-passed : (vs : Variables) (fs : List Frame) (t name after : List ℕ) (n most : ℕ) → BeginsWithUse name after t → most < n + 64 → most < n + length (left use_mark vs fs t)
use-passed vs fs t name after n most h l =
    let us = inner vs fs in
    let x = marked_value use_mark (marked use_mark) us name (lookup (bytes_eq name) us) in
    let more = written-counted vs fs fs t after x (left-write use_mark x vs fs t after (h use_mark us)) in
    omega (arith, more, value_len use_mark us name (lookup (bytes_eq name) us), use_len, l)

closed : (mark : List ℕ) (vs : Variables) (fs gs : List Frame) (g : Frame) (t : List ℕ) → fs ≡ gs ++ g ∷ [] → length t ≡ 0 → left mark vs fs t ≡ left mark vs gs g.rest.now
closed mark vs fs gs g t e none = ap (λ xs. left mark vs xs t) e ∙ left-close mark vs gs g t none

pub closed-counted : (vs : Variables) (fs gs : List Frame) (g : Frame) (t : List ℕ) → fs ≡ gs ++ g ∷ [] → length t ≡ 0 → length (left use_mark vs fs t) ≡ length (left use_mark vs gs g.rest.now)
closed-counted vs fs gs g t e none = ap length (closed use_mark vs fs gs g t e none)

pub closed-falls : (vs : Variables) (fs gs : List Frame) (g : Frame) (t : List ℕ) → fs ≡ gs ++ g ∷ [] → length t ≡ 0 → turns vs gs g.rest.now < turns vs fs t
closed-falls vs fs gs g t e none = omega (arith, ap length (closed (0 ∷ []) vs fs gs g t e none), ap length e, length-append gs (g ∷ []))

pub start-counted : (vs : Variables) (fs : List Frame) (t : List ℕ) → fs ≡ [] → length (left use_mark vs fs t) ≡ length (with_uses vs t)
start-counted vs fs t f = ap (λ xs. length (left use_mark vs xs t)) f

pub over-counted : (vs : Variables) (fs : List Frame) (t : List ℕ) → length t ≡ 0 → length fs ≡ 0 → length (left use_mark vs fs t) ≡ 0
over-counted vs [] t none last = ap length (marked-none use_mark vs t none)
over-counted vs (f ∷ fs) t none last = absurd (omega arith)

pub counted : (n most : ℕ) (t : List ℕ) → n ≡ length t → n ≤ most → Some n ≡ length_within most t
counted n most t e h = grind arith

pub passed : (most : ℕ) (t : List ℕ) → most < length t → None ≡ length_within most t
passed most t h = grind arith

-- a text that stays as it is
pub plain-counted : (r : Option ℕ) (n most : ℕ) (t u : List ℕ) → u ≡ t → n ≡ length t → MatchOption r (most < 0 + n) (λ k. k ≡ 0 + n) → IfSome r (λ k. k ≤ most) → r ≡ length_within most u
plain-counted None n most t u e l h w = passed most u (omega (arith, h, l, ap length e))
plain-counted (Some k) n most t u e l h w = counted k most u (omega (arith, h, l, ap length e)) w

-- ---- with marks a text is no shorter

longer-flat : (f g : Part → List ℕ) → ((p : Part) → length (f p) ≤ length (g p)) → (ps : List Part) → length (flat_map f ps) ≤ length (flat_map g ps)
longer-flat f g h [] = omega arith
longer-flat f g h (p ∷ ps) =
    omega (arith, length-append (f p) (flat_map f ps), length-append (g p) (flat_map g ps), h p, longer-flat f g h ps)

module _ (mark : List ℕ) where
  longer-value : (n : ℕ) (vs : Variables) (name : List ℕ) (o : Option (List ℕ)) → ((us : Variables) (t : List ℕ) → length (expanded_within n us t) ≤ length (marked_within mark n us t)) → length (value_by (expanded_within n) vs name o) ≤ length (marked_value mark (marked_within mark n) vs name o)
  longer-value n vs name None h = omega arith
  longer-value n vs name (Some text) h = omega (arith, length-append mark (marked_within mark n (without name vs) text), h (without name vs) text)

  longer-part : (n : ℕ) (vs : Variables) → ((us : Variables) (t : List ℕ) → length (expanded_within n us t) ≤ length (marked_within mark n us t)) → (p : Part) → length (written_by (expanded_within n) vs p) ≤ length (marked_part mark (marked_within mark n) vs p)
  longer-part n vs h (itself c) = omega arith
  longer-part n vs h (use_of name) = longer-value n vs name (lookup (bytes_eq name) vs) h

  longer-within : (n : ℕ) (vs : Variables) (t : List ℕ) → length (expanded_within n vs t) ≤ length (marked_within mark n vs t)
  longer-within zero vs t = omega arith
  longer-within (suc n) vs t = longer-flat (written_by (expanded_within n) vs) (marked_part mark (marked_within mark n) vs) (longer-part n vs (longer-within n)) (parts part_len part t)

pub longer : (vs : Variables) (t : List ℕ) → length (expanded vs t) ≤ length (with_uses vs t)
unfolding marked expanded
longer vs t = longer-within use_mark (suc (length vs)) vs t
