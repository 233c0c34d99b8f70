-- Equal states stand alike.
use Rattle.std.proofs.Common.{◌≡◌, ◌==◌, ℕ, Bool, true, false, ◌&&◌, List, Option, Some, None, refl, ap, ◌∙◌}
use mathlib.Core.Bool.{beq}
use Rattle.std.specs.Prelude.{Decides}
use Rattle.std.specs.Option.{option_eq}
use Rattle.std.specs.Cmp.Lexicographic.{pointwise}
use Rattle.std.proofs.lemmas.Bool.Decides.{Decides-eqb, Decides-and, Decides-like}
use Rattle.std.proofs.lemmas.Slice.Eq.{slice_eq-Decides}
use Rattle.syntect_parsing.specs.syntect_regex.Region.{same_span, same_groups}
use Rattle.syntect_parsing.specs.syntect_grammar_contexts.Substitution.{Opening, Groups}
use Rattle.syntect_parsing.specs.syntect_grammar_contexts.declared.context.ContextId.{ContextId}
use Rattle.syntect_parsing.specs.syntect_reading_state.Openings.{same_opening}
use Rattle.syntect_parsing.specs.States.{Standing}
use Rattle.syntect_reading_choice.specs.declared.level.Level.{Level}

lists : {X : Type 0} {same : X → X → Bool} → ((a b : X) → Decides (same a b) (a ≡ b)) → (xs ys : List X) → Decides (pointwise same xs ys) (xs ≡ ys)
lists each xs ys = slice_eq-Decides each xs ys _ refl

options : {X : Type 0} {same : X → X → Bool} → ((a b : X) → Decides (same a b) (a ≡ b)) → (x y : Option X) → Decides (option_eq same x y) (x ≡ y)
options each None None = (λ e. refl, λ e. refl)
options each None (Some b) = (λ e. cc, λ e. cc)
options each (Some a) None = (λ e. cc, λ e. cc)
options each (Some a) (Some b) = (λ e. ap Some ((each a b).0 e), λ e. (each a b).1 (cc))

spans : (x y : ℕ × ℕ) → Decides (same_span x y) (x ≡ y)
spans x y = Decides-like _ (λ e. ap (λ a. (a, x.1)) e.0 ∙ ap (λ b. (y.0, b)) e.1) (λ e. (ap (λ p. p.0) e, ap (λ p. p.1) e)) (Decides-and _ _ (Decides-eqb x.0 y.0) (Decides-eqb x.1 y.1))

groups : (x y : Groups) → Decides (same_groups x y) (x ≡ y)
groups = lists (options spans)

openings : (a b : Opening) → Decides (same_opening a b) (a ≡ b)
openings a b =
    Decides-like _ (λ e. ap (λ r. record { region = r; line = a.line }) e.0 ∙ ap (λ l. record { region = b.region; line = l }) e.1)
    (λ e. (ap (λ (o : Opening). o.region) e, ap (λ (o : Opening). o.line) e)) (Decides-and _ _ (groups a.region b.region) (lists Decides-eqb a.line b.line))

-- the numbers of contexts, by both parts
abbrev pub same_id : ContextId → ContextId → Bool
same_id a b = (a.syntax_index == b.syntax_index) && (a.context_index == b.context_index)

ids : (a b : ContextId) → Decides (same_id a b) (a ≡ b)
ids a b =
    Decides-like _ (λ e. ap (λ i. record { syntax_index = i; context_index = a.context_index }) e.0 ∙ ap (λ i. record { syntax_index = b.syntax_index; context_index = i }) e.1)
    (λ e. (ap (λ (i : ContextId). i.syntax_index) e, ap (λ (i : ContextId). i.context_index) e)) (Decides-and _ _ (Decides-eqb a.syntax_index b.syntax_index) (Decides-eqb a.context_index b.context_index))

abbrev pub same_level : Level → Level → Bool
same_level a b = same_id a.context b.context && (pointwise same_id a.prototypes b.prototypes && option_eq same_opening a.opening b.opening)

levels : (a b : Level) → Decides (same_level a b) (a ≡ b)
levels a b =
    Decides-like _
    (λ e. ap (λ i. record { context = i; prototypes = a.prototypes; opening = a.opening }) e.0
    ∙ ap (λ ps. record { context = b.context; prototypes = ps; opening = a.opening }) e.1.0
    ∙ ap (λ o. record { context = b.context; prototypes = b.prototypes; opening = o }) e.1.1)
    (λ e. (ap (λ (l : Level). l.context) e, (ap (λ (l : Level). l.prototypes) e, ap (λ (l : Level). l.opening) e)))
    (Decides-and _ _ (ids a.context b.context) (Decides-and _ _ (lists ids a.prototypes b.prototypes) (options openings a.opening b.opening)))

bools : (a b : Bool) → Decides (beq a b) (a ≡ b)
bools true true = (λ k. refl, λ k. refl)
bools false false = (λ k. refl, λ k. refl)
bools true false = (λ k. cc, λ k. cc)
bools false true = (λ k. cc, λ k. cc)

pub standings : (a b : Standing) → Decides (pointwise same_level a.levels b.levels && (pointwise ◌==◌ a.cuts b.cuts && beq a.first_line b.first_line)) (a ≡ b)
standings a b =
    Decides-like _
    (λ e. ap (λ l. record { levels = l; cuts = a.cuts; first_line = a.first_line }) e.0
    ∙ ap (λ c. record { levels = b.levels; cuts = c; first_line = a.first_line }) e.1.0
    ∙ ap (λ x. record { levels = b.levels; cuts = b.cuts; first_line = x }) e.1.1)
    (λ e. (ap (λ (s : Standing). s.levels) e, (ap (λ (s : Standing). s.cuts) e, ap (λ (s : Standing). s.first_line) e)))
    (Decides-and _ _ (lists levels a.levels b.levels) (Decides-and _ _ (lists Decides-eqb a.cuts b.cuts) (bools a.first_line b.first_line)))

-- no comparison looks at the count of turns
pub no_count : (b : Bool) → ((b && true) ≡ true → b ≡ true) × (b ≡ true → (b && true) ≡ true)
no_count true = (λ e. refl, λ e. refl)
no_count false = (λ e. e, λ e. e)
