-- The value of a text.
use Rattle.std.specs.Prelude.{ℕ, zero, suc, Bool, true, false, ◌&&◌, ◌==◌, if◌then◌else◌, List, length, drop, slice_index, Option, Some, None}
use Rattle.syntect_yaml.specs.Node.{Node}
use Rattle.syntect_yaml.specs.Lines.{Rest, ◌>>=◌, ◌∈◌, first, after_line, Cursor, seek, is_line_of, unmarked, next}
use Rattle.syntect_yaml.specs.Blocks.{block}
use Rattle.syntect_yaml.specs.declared.read.Heading.{Heading}
use Rattle.syntect_yaml.specs.declared.read.Heading.TheVariants.{Directive, Start, Body}

-- without a byte order mark
unfoldable pub unmasked : Rest → Rest
unmasked t =
    if (first t == 0xEF && slice_index t 1 == 0xBB) && slice_index t 2 == 0xBF then drop 3 t else t

-- what the line at a place is before the node: one that begins with `%`, or `---`,
-- or the node's first
abbrev pub heading : Cursor → Heading
heading p =
    if p.column == 0 && first p.rest ∈ "%" then Directive
    else if p.column == 0 && is_line_of 45 p.rest then Start
    else Body

-- where the node begins, by what this line is; after one that begins with `%` a `---` has to come
abbrev pub begin_on : (Rest → Option Cursor) → Bool → Cursor → Heading → Option Cursor
begin_on more directed p Directive = more (after_line p.rest)
begin_on more directed p Start = next (after_line p.rest)
begin_on more directed p Body = if directed then None else unmarked p

-- where the node begins: fewer than n lines that begin with `%` and then a line `---` may stand
-- before it; the flag says that one with `%` did
unfoldable pub begin : ℕ → Bool → Rest → Option Cursor
begin zero directed t = None
begin (suc n) directed t =
    seek (suc (length t)) t >>= (λ p. begin_on (begin n true) directed p (heading p))

-- maps and lists nest no deeper than this
abbrev pub deepest : ℕ
deepest = 100

-- the value, where nothing stands below its node
abbrev pub alone : Node × Cursor → Option (Option Node)
alone v = if length v.1.rest == 0 then Some (Some v.0) else None

-- no node, where the flag says that the text is over, else the one here, if nothing stands below
abbrev pub answer : Bool → Cursor → Option (Option Node)
answer true p = Some None
answer false p = block deepest 0 p >>= alone

-- the value of a text without a byte order mark
unfoldable pub value_of : Rest → Option (Option Node)
value_of t = begin (suc (length t)) false t >>= (λ p. answer (length p.rest == 0) p)

-- The value of a text: None for a text that has none, Some None for a text without a node.
abbrev pub yaml_of : List ℕ → Option (Option Node)
yaml_of t = value_of (unmasked t)
