-- How many steps a try counts.
use Rattle.std.proofs.Common.{◌≡◌, ℕ, ◌+◌, ◌*◌, ◌≤◌, List, length, Bool, true, Option, Some, None, sym, ap, ◌∙◌, subst, arith}
use Rattle.syntect_regex.specs.syntect_pattern.Trees.{Tree, group}
use Rattle.syntect_regex.specs.syntect_pattern.Pattern.{pattern_tree}
use Rattle.syntect_regex.specs.syntect_pattern_compile.Compiled.{IsCompiled}
use Rattle.syntect_regex.specs.syntect_pattern_table.declared.program.Program.{Program}
use Rattle.syntect_regex.specs.syntect_pattern_plan.Linear.{is_linear}
use Rattle.syntect_pattern_seek.specs.Bounds.{IsWithinTry, root_tree, tried_bound}
use Rattle.syntect_regex.specs.Bounds.{is_linear_whole, pattern_is_linear, search_bound, whole_bound}

-- what a try counts besides its search is within the bound of any pattern
pub try-alone : (pattern : List ℕ) (long before after few : ℕ) → after ≤ before + few → few ≤ 14001 + long → after ≤ before + search_bound pattern long
try-alone pattern long before after few h f = by (pattern_tree pattern)
  where
    by : (o : Option Tree) → after ≤ before + whole_bound o (length pattern) long
    by None = omega (arith, h, f)
    by (Some t) = omega (arith, h, f)

sums : (x y long few before mid after : ℕ) → mid ≤ before + few → few ≤ 14001 + long → after ≤ mid + (long * 8 + x + 2048 + y) → after ≤ before + (long * 64 + x + 16384 + y)
sums x y long few before mid after m f a = omega (arith, m, f, a)

-- and so it is with the search
pub try-searched : (pattern text : List ℕ) (p : Program) (long few before mid after : ℕ) → IsCompiled pattern p → text ≡ pattern → pattern_is_linear pattern ≡ true → mid ≤ before + few → few ≤ 14001 + long
    → IsWithinTry p (length text) long mid after → after ≤ before + search_bound pattern long
try-searched pattern text p long few before mid after is same easy m f w =
    let root : root_tree p ≡ group 0 is.tree = is.program.root in
    let linear : is_linear (root_tree p) ≡ true = ap is_linear root ∙ (sym (ap is_linear_whole is.reads) ∙ easy) in
    let here : after ≤ mid + tried_bound (root_tree p) (length text) long = w linear in
    let whole : after ≤ mid + tried_bound (group 0 is.tree) (length text) long = subst (λ (t : Tree). after ≤ mid + tried_bound t (length text) long) root here in
    let read : after ≤ mid + tried_bound (group 0 is.tree) (length pattern) long = subst (λ (l : List ℕ). after ≤ mid + tried_bound (group 0 is.tree) (length l) long) same whole in
    let all : after ≤ before + whole_bound (Some is.tree) (length pattern) long = sums _ _ long few before mid after m f read in
    subst (λ (o : Option Tree). after ≤ before + whole_bound o (length pattern) long) (sym is.reads) all
