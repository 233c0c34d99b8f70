-- Builders of what stands on a shelf.
use Rattle.std.proofs.Common.{◌≡◌, ℕ, suc, ◌+◌, ◌<◌, ◌≤◌, List, [], ◌∷◌, ◌++◌, append_assoc, append-nil, length, length-append, drop, get_or, drop-cons, refl, ap, sym, ◌∙◌, subst, arith}
use Rattle.std.proofs.lemmas.List.{drop_all}
use Rattle.syntect_grammar.specs.Folders.{AddsMetadata, entry_added, passed_over}
use Rattle.syntect_grammar.specs.Link.{definitions_in, paths_in}
use Rattle.syntect_grammar.specs.Metadata.{entries_in, kept_sets, metadata_in, IsMergedOf}
use Rattle.syntect_grammar.specs.declared.syntax_set.SyntaxSet.{SyntaxSet}
use Rattle.syntect_grammar.specs.declared.syntax_set.SyntaxSetBuilder.{SyntaxSetBuilder}
use Rattle.syntect_grammar_limits.specs.syntect_base.Trees.{Answer}
use Rattle.syntect_shelf.specs.Gathering.{AddsEntries, no_more, entry, HasMetadata, path_at, paths_from}
use Rattle.syntect_shelf.specs.declared.grammar.Grammar.{Grammar}

module _ (Told : Answer → Type 0) where
  -- metadata leaves the definitions and their paths
  pub kept_by : (path : List ℕ) (builder next : SyntaxSetBuilder) → AddsMetadata Told path builder next → (definitions_in next ≡ definitions_in builder) × (paths_in next ≡ paths_in builder)
  kept_by path builder _ (entry_added t i) = (refl, refl)
  kept_by path builder _ (passed_over f n) = (refl, refl)

  -- what is left of files is added after those before
  abbrev pub Goes : List (List ℕ) → ℕ → SyntaxSetBuilder → SyntaxSetBuilder → Type 0
  Goes paths i first builder = (all : SyntaxSetBuilder) → AddsEntries Told (drop i paths) builder all → AddsEntries Told paths first all

  pub goes_on : (paths : List (List ℕ)) (i : ℕ) (path text : List ℕ) (first builder next : SyntaxSetBuilder) → i < length paths → path ≡ get_or paths i path → text ≡ path
      → Goes paths i first builder → AddsMetadata Told text builder next → Goes paths (i + 1) first next
  goes_on paths i path text first builder next l e same goes adds all more =
      let n : suc i ≡ i + 1 = omega arith in
      let cons : drop i paths ≡ path ∷ drop (i + 1) paths = drop-cons paths i path l ∙ ap (λ k. get_or paths i path ∷ drop k paths) n ∙ ap (λ y. y ∷ drop (i + 1) paths) (sym e) in
      goes all (subst (λ (ps : List (List ℕ)). AddsEntries Told ps builder all) (sym cons)
      (entry (subst (λ (t : List ℕ). AddsMetadata Told t builder next) same adds) more))

  pub all_gone : (paths : List (List ℕ)) (i : ℕ) (first builder : SyntaxSetBuilder) → length paths ≤ i → Goes paths i first builder → AddsEntries Told paths first builder
  all_gone paths i first builder l goes = goes builder (subst (λ (ps : List (List ℕ)). AddsEntries Told ps builder builder) (sym (drop_all i paths l)) no_more)

  pub has_metadata : (paths : List (List ℕ)) (old new : List (List ℕ)) (bare all : SyntaxSetBuilder) (set : SyntaxSet) → entries_in bare ≡ [] → kept_sets bare ≡ [] → AddsEntries Told paths bare all
      → IsMergedOf old all new (metadata_in set) → HasMetadata Told paths old new set
  has_metadata paths old new bare all set e k a m = record { bare = bare; all = all; no_entries = e; no_sets = k; adds = a; merged = m }

-- ---- definitions with their paths ----

pub appended : {A : Type 0} (before after rest all : List A) (d : A) → after ≡ before ++ d ∷ [] → before ++ d ∷ rest ≡ all → after ++ rest ≡ all
appended before after rest all d e h = ap (λ x. x ++ rest) e ∙ append_assoc before (d ∷ []) rest ∙ h

pub path_appended : (n m : ℕ) (g : Grammar) (grammars : List Grammar) (before after all : List (List ℕ × ℕ)) → m ≡ n + 1 → after ≡ before ++ path_at n g.source → before ++ paths_from n (g ∷ grammars) ≡ all → after ++ paths_from m grammars ≡ all
path_appended n m g grammars before after all k e h =
    ap (λ x. x ++ paths_from m grammars) e ∙ append_assoc before (path_at n g.source) (paths_from m grammars) ∙ ap (λ i. before ++ (path_at n g.source ++ paths_from i grammars)) k ∙ h

pub one_longer : {A : Type 0} (before after : List A) (d : A) → after ≡ before ++ d ∷ [] → length after ≡ length before + 1
one_longer before after d e = ap length e ∙ length-append before (d ∷ [])

-- nothing is left of either
pub ended : {A : Type 0} (out rest all : List A) → length rest ≡ 0 → out ++ rest ≡ all → out ≡ all
ended out [] all n h = sym (append-nil out) ∙ h
ended out (x ∷ rest) all n h = absurd (omega (arith, n))

pub paths_ended : (n : ℕ) (out : List (List ℕ × ℕ)) (rest : List Grammar) (all : List (List ℕ × ℕ)) → length rest ≡ 0 → out ++ paths_from n rest ≡ all → out ≡ all
paths_ended n out [] all l h = sym (append-nil out) ∙ h
paths_ended n out (g ∷ rest) all l h = absurd (omega (arith, l))
