-- Where no match of a pattern begins.
use Rattle.std.proofs.Common.{◌≡◌, ◌||◌, ℕ, ◌+◌, Bool, true, false, List, get_or, Option, Some, None, refl, sym, subst, ◌∙◌, ap, arith}
use Rattle.std.specs.Prelude.{slice_get, option_and_then, option_map, if◌then◌else◌}
use Rattle.std.proofs.lemmas.Option.{slice_get_within, get_or_from_slice_get}
use Rattle.syntect_regex.specs.syntect_pattern.Text.{is_boundary}
use Rattle.syntect_regex.specs.syntect_pattern.Trees.{Tree, nothing, group}
use Rattle.syntect_regex.specs.syntect_pattern.Matches.{Member, anchor_holds, found, found_at, is_word_edge, matches, unset}
use Rattle.syntect_regex.specs.syntect_pattern.declared.anchor.Anchor.{Anchor}
use Rattle.syntect_regex.specs.syntect_pattern.Pattern.{pattern_tree}
use Rattle.syntect_regex.specs.syntect_pattern_table.Program.{trees_of}
use Rattle.syntect_regex.specs.syntect_pattern_table.Starts.{is_in, reads, start_at, stays}
use Rattle.syntect_regex.specs.syntect_pattern_table.declared.program.Program.{Program}
use Rattle.syntect_regex.specs.syntect_pattern_table.declared.starts.Places.{Places}
use Rattle.syntect_regex.proofs.syntect_pattern_table_proofs.BeginLaws.{start-bound}
use Rattle.syntect_regex.proofs.syntect_pattern_table_proofs.StartLaws.{found_at-nothing}
use Rattle.syntect_pattern_seek.proofs.NextLaws.{found-next, pattern-next}
use Rattle.syntect_regex.specs.syntect_pattern_compile.Compiled.{Compiles, IsCompiled}
use Rattle.syntect_regex.specs.Begins.{BeginsAtEdges, BeginsAtLines, IsAtEdges, IsAtLines, NoneBeginsBefore, NoneBeginsOutside}
use Rattle.syntect_pattern_word_ends.specs.Ends.{StandsBehind, ends, passes}
use Rattle.syntect_pattern_word_ends.proofs.EndLaws.{none-in_run}

-- what the root of a program can begin with
pub none-outside : (pattern : List ℕ) (p : Program) → IsCompiled pattern p → (places : Places) → Some places ≡ slice_get p.firsts p.root → NoneBeginsOutside places pattern
none-outside pattern p is places got s u i out =
    let x : ℕ = start_at s i in
    let known : is_in places x ≡ (reads (get_or (trees_of p) p.root nothing) x || stays (get_or (trees_of p) p.root nothing) x) =
    ap (λ (q : Places). is_in q x) (sym (get_or_from_slice_get p.firsts p.root places places (sym got)))
    ∙ p.begun p.root x places (slice_get_within p.firsts p.root places (sym got)) (start-bound s i) in
    let dead : (reads is.tree x || stays is.tree x) ≡ false =
    sym (ap (λ (t : Tree). reads t x || stays t x) is.program.root) ∙ sym known ∙ out in
    pattern-next s pattern is.tree i is.reads (found-next s is.tree i (found_at-nothing s u is.tree i dead))

-- a text that is no pattern matches nowhere
pub none-anywhere : (pattern : List ℕ) (places : Places) → pattern_tree pattern ≡ None → NoneBeginsOutside places pattern
none-anywhere pattern places e s u i out =
    ap (λ (o : Option Tree). option_and_then (λ t. found s t i) o) e ∙ sym (ap (λ (o : Option Tree). option_and_then (λ t. found s t (i + 1)) o) e)

-- ---- at the edges of words ----

none-off-edges : (s : List ℕ) (tree : Tree) (i : ℕ) → IsAtEdges (group 0 tree) → is_word_edge s i ≡ false → found_at s tree i ≡ None
unfolding found_at
none-off-edges s tree i h out = go (is_boundary s i)
  where
    go : (b : Bool) → (if b then option_map (λ (m : Member). m.1) (slice_get (matches s (group 0 tree) i (unset s tree)) 0) else None) ≡ None
    go true = ap (λ (ms : List Member). option_map (λ (m : Member). m.1) (slice_get ms 0)) (h s i (unset s tree) out)
    go false = refl

-- a program whose root has no match but there
pub edges-found : (pattern : List ℕ) (p : Program) → IsCompiled pattern p → IsAtEdges (get_or (trees_of p) p.root nothing) → BeginsAtEdges pattern
edges-found pattern p is h s i out =
    pattern-next s pattern is.tree i is.reads (found-next s is.tree i (none-off-edges s is.tree i (subst IsAtEdges is.program.root h) out))

-- ---- where lines begin ----

none-off-lines : (s : List ℕ) (tree : Tree) (i : ℕ) → IsAtLines (group 0 tree) → anchor_holds s Anchor.LineStart i ≡ false → found_at s tree i ≡ None
unfolding found_at
none-off-lines s tree i h out = go (is_boundary s i)
  where
    go : (b : Bool) → (if b then option_map (λ (m : Member). m.1) (slice_get (matches s (group 0 tree) i (unset s tree)) 0) else None) ≡ None
    go true = ap (λ (ms : List Member). option_map (λ (m : Member). m.1) (slice_get ms 0)) (h s i (unset s tree) out)
    go false = refl

-- a program whose root has no match but there
pub lines-found : (pattern : List ℕ) (p : Program) → IsCompiled pattern p → IsAtLines (get_or (trees_of p) p.root nothing) → BeginsAtLines pattern
lines-found pattern p is h s i out =
    pattern-next s pattern is.tree i is.reads (found-next s is.tree i (none-off-lines s is.tree i (subst IsAtLines is.program.root h) out))

-- ---- in runs ----

module _ (blank : Bool) (pattern : List ℕ) (places : Places) where
  -- what can come after runs by the root of a program
  pub none-before : (p : Program) → IsCompiled pattern p → StandsBehind blank places (get_or (trees_of p) p.root nothing) → NoneBeginsBefore blank places pattern
  none-before p is behind s u i e run out =
      let x : ℕ = start_at s e in
      let dead : (passes blank is.tree x || ends blank is.tree x) ≡ false =
      sym (ap (λ (t : Tree). passes blank t x || ends blank t x) is.program.root) ∙ behind x (start-bound s e) out in
      pattern-next s pattern is.tree i is.reads (found-next s is.tree i (none-in_run blank s u is.tree i e run dead))

  -- so it is of a text that is no pattern
  pub none-compiled : (program : Option Program) → Compiles pattern program
      → ((p : Program) → program ≡ Some p → StandsBehind blank places (get_or (trees_of p) p.root nothing)) → NoneBeginsBefore blank places pattern
  none-compiled None is h s u i e run out =
      ap (λ (o : Option Tree). option_and_then (λ t. found s t i) o) is ∙ sym (ap (λ (o : Option Tree). option_and_then (λ t. found s t (i + 1)) o) is)
  none-compiled (Some p) is h s u i e run out = none-before p is (h p refl) s u i e run out
