-- How a search begins and ends.
use Rattle.std.proofs.Common.{◌≡◌, ℕ, List, [], refl, ◌∙◌, ap, Some, None, reverse}
use Rattle.std.specs.Prelude.{slice_get}
use Rattle.syntect_pattern_backtrack.specs.syntect_pattern.Trees.{Tree}
use Rattle.syntect_pattern_backtrack.specs.syntect_pattern.Matches.{Groups, matches}
use Rattle.syntect_pattern_backtrack.specs.declared.state.Frame.{Frame}
use Rattle.syntect_pattern_backtrack.specs.declared.state.Next.{Next}
use Rattle.syntect_pattern_backtrack.specs.declared.state.Search.{Search}
use Rattle.syntect_pattern_backtrack.specs.Machine.{On, none, one, search, list_at, end, pending, tree_at, bound_of, found_by}
use Rattle.syntect_pattern_backtrack.proofs.MachineLaws.{list_at-nil, pending-found}
use Rattle.syntect_pattern_backtrack.proofs.FirstLaws.{search-end}

module _ (s : List ℕ) (ts : List Tree) where
  -- nothing is left to try
  pub found_by-over : (x : Search) (next : Next) → next ≡ Next.Fail → x.frames.items ≡ [] → found_by s ts next x ≡ None
  unfolding none
  found_by-over x next n e =
      ap (λ (m : Next). found_by s ts m x) n
      ∙ ap (λ (fs : List Frame). (pending s ts x.cells.items x.groups.items (reverse fs) none).found) e

  -- a match is found
  pub found_by-found : (x : Search) (next : Next) → next ≡ Next.Found → bound_of (reverse x.frames.items) ≡ None → found_by s ts next x ≡ Some (x.place, x.groups.items)
  unfolding one
  found_by-found x next n b =
      ap (λ (m : Next). found_by s ts m x) n
      ∙ pending-found s ts x.cells.items x.groups.items (reverse x.frames.items) (one x.place x.groups.items) x.place x.groups.items b refl

  -- a search that begins with the node finds the first of its matches
  pub found_by-start : (x : Search) (root i : ℕ) (g : Groups) → x.frames.items ≡ [] → x.groups.items ≡ g → x.place ≡ i
      → found_by s ts (Next.Enter root 0) x ≡ slice_get (matches s (tree_at s ts root) i g) 0
  found_by-start x root i g hf hg hi =
      ap (λ (fs : List Frame). (pending s ts x.cells.items x.groups.items (reverse fs) (search s (tree_at s ts root) (list_at s ts x.cells.items 0) x.place x.groups.items)).found) hf
      ∙ ap (λ (k : On). (search s (tree_at s ts root) k x.place x.groups.items).found) (list_at-nil s ts x.cells.items)
      ∙ ap (λ (h : Groups). (search s (tree_at s ts root) (end s ts) x.place h).found) hg
      ∙ ap (λ (j : ℕ). (search s (tree_at s ts root) (end s ts) j g).found) hi
      ∙ search-end s ts (tree_at s ts root) i g
