-- What a reader of a page sees, byte by byte: the text outside tags, each byte with the tags that
-- are open around it.
use Rattle.std.specs.Prelude.{ℕ, ◌-◌, ◌<◌, ◌==◌, Bool, true, false, List, [], ◌∷◌, ◌++◌, length, take, map, codes, Option, Some, None, if◌then◌else◌}
use Rattle.std.specs.Cmp.Lexicographic.{pointwise}
use Rattle.syntect_writers.specs.Classes.{classes_text}
use Rattle.syntect_writers.specs.Marks.{Mark}
use Rattle.syntect_writers.specs.Marks.Mark.{Begin, End, Words}
use Rattle.syntect_writers.specs.Entities.{entity}

-- ---- reading bytes ----

-- the tags that are open, outermost first; the tag that is being read, if one is; what was seen so
-- far; and whether a closing tag came where none was open
pub record Reader : Type 0 where
  pub open_tags : List (List ℕ)
  pub tag : Option (List ℕ)
  pub seen : List (ℕ × List (List ℕ))
  pub stray : Bool

-- the tag without its angle brackets closes a span
abbrev pub is_closing : List ℕ → Bool
is_closing tag = pointwise ◌==◌ tag (codes "/span")

-- the last open tag is closed, if one is
abbrev pub closed : Reader → List (List ℕ) → Reader
closed r [] = record r { tag = None; stray = true }
closed r (t ∷ ts) = record r { open_tags = take (length (t ∷ ts) - 1) (t ∷ ts); tag = None }

-- a tag has been read
abbrev pub tagged : Reader → List ℕ → Reader
tagged r tag =
    if is_closing tag then closed r r.open_tags
    else record r { open_tags = r.open_tags ++ tag ∷ []; tag = None }

-- a byte outside tags, or inside one
abbrev pub read_byte : Reader → Option (List ℕ) → ℕ → Reader
read_byte r None b =
    if b == 60 then record r { tag = Some [] }
    else record r { seen = r.seen ++ (b, r.open_tags) ∷ [] }
read_byte r (Some tag) b = if b == 62 then tagged r tag else record r { tag = Some (tag ++ b ∷ []) }

-- one byte after another
abbrev pub read : Reader → List ℕ → Reader
read r [] = r
read r (b ∷ bs) = read (read_byte r r.tag b) bs

-- ---- what marks mean ----

-- the tag of a scope's span, without its angle brackets
abbrev pub tag_of : List ℕ → List (List ℕ) → List ℕ → List ℕ
tag_of prefix repo scope = codes "span class=\"" ++ (classes_text prefix repo scope ++ codes "\"")

-- the scopes whose spans are open after marks
abbrev pub open_behind : List (List ℕ) → List Mark → List (List ℕ)
open_behind scopes [] = scopes
open_behind scopes (Begin scope ∷ ms) = open_behind (scopes ++ scope ∷ []) ms
open_behind scopes (End ∷ ms) = open_behind (take (length scopes - 1) scopes) ms
open_behind scopes (Words text ∷ ms) = open_behind scopes ms

-- the bytes of the text, each with the scopes whose spans are open
abbrev pub bytes_under : List (List ℕ) → List Mark → List (ℕ × List (List ℕ))
bytes_under scopes [] = []
bytes_under scopes (Begin scope ∷ ms) = bytes_under (scopes ++ scope ∷ []) ms
bytes_under scopes (End ∷ ms) = bytes_under (take (length scopes - 1) scopes) ms
bytes_under scopes (Words text ∷ ms) = map (λ b. (b, scopes)) text ++ bytes_under scopes ms

-- a span ends only where one is open
abbrev pub IsNested : List (List ℕ) → List Mark → Type 0
IsNested scopes [] = Unit {0}
IsNested scopes (Begin scope ∷ ms) = IsNested (scopes ++ scope ∷ []) ms
IsNested scopes (End ∷ ms) = (0 < length scopes) × IsNested (take (length scopes - 1) scopes) ms
IsNested scopes (Words text ∷ ms) = IsNested scopes ms

-- a byte of the text as it is seen: the bytes that HTML writes for it, under the tags of its scopes
abbrev pub shown : List ℕ → List (List ℕ) → ℕ × List (List ℕ) → List (ℕ × List (List ℕ))
shown prefix repo p = map (λ e. (e, map (tag_of prefix repo) p.1)) (entity p.0)

-- a reader who has seen this much, under the tags of scopes
abbrev pub under : List ℕ → List (List ℕ) → List (List ℕ) → List (ℕ × List (List ℕ)) → Reader
under prefix repo scopes seen =
    record { open_tags = map (tag_of prefix repo) scopes; tag = None; seen = seen; stray = false }
