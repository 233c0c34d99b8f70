-- Flow maps and lists, over any lines.
use Rattle.std.specs.Prelude.{ℕ, zero, suc, true, false, ◌==◌, if◌then◌else◌, length, drop, Option, Some, None, option_map}
use Rattle.syntect_yaml.specs.Node as node
use Rattle.syntect_yaml.specs.Node.{Node, Items, no_items, push_item, Entries, no_entries, push_entry, has_key}
use Rattle.syntect_yaml.specs.declared.flow.FlowOpening.{FlowOpening}
use Rattle.syntect_yaml.specs.declared.flow.FlowOpening.TheVariants.{List, Map, Nothing}
use Rattle.syntect_yaml.specs.Lines.{Rest, Read, ◌>>=◌, ◌∈◌, first, is_space, after_run, line_tail, next}
use Rattle.syntect_yaml.specs.Scalars.{scalar, key}

-- what was read, under f
abbrev pub read_map : {A B : Type 0} → (A → B) → Read A → Read B
read_map f r = option_map (λ p. (f p.0, p.1)) r

-- what is left after the gap: on a line below, where this one is over, else after its spaces
abbrev pub gap_on : Rest → Option Rest → Option Rest
gap_on t (Some after) = option_map (λ p. p.rest) (next after)
gap_on t None = Some (after_run is_space t)

-- the next part: after spaces, or after what is left of this line, and lines that are passed over
unfoldable pub gap : Rest → Option Rest
gap t = gap_on t (line_tail false t)

-- after a part its comma is passed; the closing mark stays
unfoldable pub after_part : ℕ → Rest → Option Rest
after_part closing t =
    gap t >>= (λ u. if first u ∈ "," then Some (drop 1 u) else if first u == closing then Some u
    else None)

module _ (value : Rest → Read Node) where
  -- the rest of a list, of fewer than n values, after those found
  unfoldable pub items : ℕ → Items → Rest → Read Items
  items zero found t = None
  items (suc n) found t =
      gap t >>= (λ u.
      if first u ∈ "]" then Some (found, drop 1 u)
      else value u >>= (λ v. after_part 93 v.1 >>= items n (push_item found v.0)))

  -- the value of an entry, after its `:`
  unfoldable pub entry_value : Rest → Read Node
  entry_value t = gap t >>= value

  -- the rest of a map, of fewer than n entries, after those found; no key comes twice
  unfoldable pub entries : ℕ → Entries → Rest → Read Entries
  entries zero found t = None
  entries (suc n) found t =
      gap t >>= (λ u.
      if first u ∈ "}" then Some (found, drop 1 u)
      else key true u >>= (λ k.
      if has_key k.0 found then None
      else entry_value k.1 >>= (λ v. after_part 125 v.1 >>= entries n (push_entry found k.0 v.0))))

-- what begins with a mark
abbrev pub opening : Rest → FlowOpening
opening t = if first t ∈ "[" then List else if first t ∈ "{" then Map else Nothing

-- a list or map of what `value` reads, or a scalar, by the mark that stands here
abbrev pub opening_value : (Rest → Read Node) → FlowOpening → Rest → Read Node
opening_value value List t = read_map node.list (items value (length t) no_items (drop 1 t))
opening_value value Map t = read_map node.map (entries value (length t) no_entries (drop 1 t))
opening_value value Nothing t = read_map node.scalar (scalar true t)

-- a value in flow: a list, a map or a scalar, where lists and maps nest no deeper than this
unfoldable pub flow : ℕ → Rest → Read Node
flow zero t = read_map node.scalar (scalar true t)
flow (suc depth) t = opening_value (flow depth) (opening t) t

-- ---- For proofs and private functions alone ----

-- the same, where lists and maps may nest this deep
abbrev pub opening_within : ℕ → Rest → FlowOpening
opening_within zero t = Nothing
opening_within (suc depth) t = opening t
