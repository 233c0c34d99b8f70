-- The tree of a text that is a pattern: groups, alternatives, items and quantifiers.
use Rattle.std.specs.Prelude.{◌≡◌, ◌<◌, ℕ, zero, suc, ◌+◌, Bool, true, false, not, ◌&&◌, ◌||◌, nat_eq, nat_le, nat_lt, List, [], ◌∷◌, ◌++◌, length, drop, Option, Some, None, option_map, if◌then◌else◌, is_some}
use Rattle.std.specs.Char.{is_ascii_digit}
use Rattle.std.specs.List.{list_any}
use lib.Pointwise.{pointwise}
use Rattle.syntect_pattern.specs.Sets.{numbers_from, Set, none, range, negated, from_to}
use Rattle.syntect_pattern.specs.Trees.{numbers, group_count, Tree, nothing, one_of, anchor, same, repeat, group, atomic, ahead, behind, seq_all, alt_all}
use Rattle.syntect_pattern.specs.declared.anchor.Anchor.{Anchor}
use Rattle.syntect_pattern.specs.Matches.{Groups, found}
use Rattle.syntect_pattern.specs.Reading.{Text, ◌>>=◌, ◌>>◌, ◌∈◌, begins, is_empty, run, value, name_in, between, pass}
use Rattle.syntect_pattern.specs.Escapes.{Escape, char, set, edge, number, name, escape}
use Rattle.syntect_pattern.specs.Classes.{deepest, class}

-- the flags i, m and x
pub record Flags : Type 0 where
  pub fold : Bool
  pub any : Bool
  pub spaced : Bool

-- the name, if any, of each group, in the order of their opening
abbrev pub Names : Type 0
Names = List (Option Text)

-- a place in the pattern: the flags that hold there, the groups opened before it, and the text from
-- there on
pub record Cursor : Type 0 where
  pub flags : Flags
  pub names : Names
  pub text : Text

-- the place n characters later
abbrev pub forward : ℕ → Cursor → Cursor
forward n p = record p { text = drop n p.text }

-- after white space and comments, as the flag x wants it, and after notes
unfoldable pub passed : Cursor → Option Cursor
passed p = option_map (λ t. record p { text = t }) (pass p.flags.spaced between p.text)

-- -- Quantifiers

-- The least and the greatest number of turns; the flag says that it is `*`, `+` or `?`, and no count.
pub record Quantifier : Type 0 where
  pub least : ℕ
  pub most : Option ℕ
  pub short : Bool

-- the number that these digits write, or no limit where there are none
abbrev pub limit : Text → Option ℕ
limit digits = if is_empty digits then None else Some (value 10 digits)

-- `{n}`, `{n,}`, `{,m}` or `{n,m}`; a `{` that begins none of them is itself
unfoldable pub count : Text → Option (Quantifier × Text)
count t = do
  begins "{" t
  let (low, after) = run is_ascii_digit (drop 1 t)
  let comma = begins "," after
  let (high, end) = run is_ascii_digit (drop 1 after)
  let close = if comma then end else after
  begins "}" close
  not (is_empty low) || (comma && not (is_empty high))
  Some (record { least = value 10 low; most = if comma then limit high else limit low; short = false }, drop 1 close)

-- the quantifier of one character, `*`, `+` or `?`, with these limits, and what follows it
abbrev pub sign : ℕ → Option ℕ → Text → Option (Quantifier × Text)
sign least most t = Some (record { least = least; most = most; short = true }, drop 1 t)

-- the quantifier at the front, if there is one
unfoldable pub quantifier : Text → Option (Quantifier × Text)
quantifier t =
    if begins "*" t then sign 0 None t
    else if begins "+" t then sign 1 None t
    else if begins "?" t then sign 0 (Some 1) t
    else count t

-- counts go up to 1000, and the least is not above the most
abbrev pub is_allowed : ℕ → Option ℕ → Bool
is_allowed least None = nat_le least 1000
is_allowed least (Some most) = nat_le least most && nat_le most 1000

-- With a `?` right after it a quantifier is lazy; with a `+` after `*`,
-- `+` or `?` it gives nothing back.
unfoldable pub loop : Quantifier → Tree → Text → Tree × Text
loop q a t =
    if begins "?" t then (repeat false q.least q.most a, drop 1 t)
    else if q.short && begins "+" t then (atomic (repeat true q.least q.most a), drop 1 t)
    else (repeat true q.least q.most a, t)

-- the item with its quantifier, if there is one, which has to be allowed; and the place after it
abbrev pub looped : Tree → Cursor → Option (Quantifier × Text) → Option (Tree × Cursor)
looped a p None = Some (a, p)
looped a p (Some (q, rest)) = do
  is_allowed q.least q.most
  let (tree, after) = loop q a rest
  Some (tree, record p { text = after })

-- the item with the quantifier after it, if there is one
unfoldable pub quantified : Tree → Cursor → Option (Tree × Cursor)
quantified a p = passed p >>= λ here. looped a here (quantifier here.text)

-- -- Openings of groups

-- the flags with these letters turned on or off
abbrev pub turned : Bool → Text → Flags → Flags
turned on letters flags = record {
  fold = if list_any (λ c. c ∈ "i") letters then on else flags.fold;
  any = if list_any (λ c. c ∈ "m") letters then on else flags.any;
  spaced = if list_any (λ c. c ∈ "x") letters then on else flags.spaced;
}

-- the letters that are turned off, after `-`
unfoldable pub off_letters : Text → Option (Text × Text)
off_letters t = if not (begins "-" t) then Some ([], t) else (do
  let (letters, after) = run (λ c. c ∈ "imx") (drop 1 t)
  not (is_empty letters)
  Some (letters, after))

-- the letters up to `:` or `)`: some that are turned on, then perhaps `-` and some
-- that are turned off
unfoldable pub flags_at : Flags → Text → Option (Flags × Text)
flags_at flags t = do
  let (on, middle) = run (λ c. c ∈ "imx") t
  (off, after) ← off_letters middle
  not (is_empty on && is_empty off)
  Some (turned false off (turned true on flags), after)

-- what a parenthesis opens: a setting of flags, or a group
pub data GroupOpening : Type 0 where
  -- `(?i)`, which holds for the rest of the enclosing group
  setting : GroupOpening
  -- a group, and what it makes of what stands in it
  opens : (Tree → Tree) → GroupOpening

-- a group with a number, and perhaps a name
abbrev pub numbered : Option Text → Cursor → GroupOpening × Cursor
numbered found p = (opens (group (suc (length p.names))), record p { names = p.names ++ found ∷ [] })

-- the group has a name, and it is the wanted one
abbrev pub has_name : Text → Option Text → Bool
has_name wanted None = false
has_name wanted (Some other) = pointwise nat_eq other wanted

-- names are distinct
unfoldable pub named_group : Cursor → Option (GroupOpening × Cursor)
named_group p = do
  (found, after) ← name_in p.text
  not (list_any (has_name found) p.names)
  Some (numbered (Some found) (record p { text = after }))

-- flags from just after `(?` on: `)` sets them for the rest of the group, `:` opens one with them
unfoldable pub flag_group : Cursor → Option (GroupOpening × Cursor)
flag_group p = do
  (flags, after) ← flags_at p.flags p.text
  begins ":" after || begins ")" after
  Some (if begins ")" after then setting else opens (λ a. a), record p { flags = flags; text = drop 1 after })

-- from just after the parenthesis up to what stands in the group
unfoldable pub opening : Cursor → Option (GroupOpening × Cursor)
opening p =
    let t = p.text in
    if not (begins "?" t) then Some (numbered None p)
    else if begins "?:" t then Some (opens (λ a. a), forward 2 p)
    else if begins "?>" t then Some (opens atomic, forward 2 p)
    else if begins "?=" t then Some (opens (ahead false), forward 2 p)
    else if begins "?!" t then Some (opens (ahead true), forward 2 p)
    else if begins "?<=" t then Some (opens (behind false), forward 3 p)
    else if begins "?<!" t then Some (opens (behind true), forward 3 p)
    else if begins "?P<" t then named_group (forward 3 p)
    else if begins "?<" t then named_group (forward 2 p)
    else flag_group (forward 1 p)

-- -- Alternatives and items

-- What is read of a group: the alternatives before this one, and the items of this one, in order.
pub record Body : Type 0 where
  pub before : List Tree
  pub items : List Tree

-- a group of which nothing has been read yet
abbrev pub empty_body : Body
empty_body = record { before = []; items = [] }

-- the group with one more item, at the end of the alternative that is being read
abbrev pub with_item : Body → Tree → Body
with_item b a = record b { items = b.items ++ a ∷ [] }

-- the group after a `|`: the alternative read so far is over, and a new one begins
abbrev pub next_alternative : Body → Body
next_alternative b = record { before = b.before ++ seq_all b.items ∷ []; items = [] }

-- the tree of alternatives
abbrev pub tree_of_body : Body → Tree
tree_of_body b = alt_all ((next_alternative b).before)

-- what stands next
pub data Next : Type 0 where
  end bar closer opener bracket backslash dot caret dollar loops : Next
  plain : ℕ → Next

-- what stands next, where the text begins with the character c; `plain` is c as itself
unfoldable pub next_char : Text → ℕ → Next
next_char t c =
    if c ∈ "|" then bar
    else if c ∈ ")" then closer
    else if c ∈ "(" then opener
    else if c ∈ "[" then bracket
    else if c ∈ "\\" then backslash
    else if c ∈ "." then dot
    else if c ∈ "^" then caret
    else if c ∈ "$" then dollar
    else if is_some (quantifier t) then loops
    else plain c

-- what stands next in the text, or that it ends
abbrev pub next_of : Text → Next
next_of [] = end
next_of (c ∷ t) = next_char (c ∷ t) c

-- what one step of reading makes: the group is over, and its end stands at the place, or it goes on
pub data Step : Type 0 where
  over : Cursor → Step
  on : Body → Cursor → Step

-- the number of the group of this name
abbrev pub number_of : Text → Names → Option ℕ
number_of wanted [] = None
number_of wanted (found ∷ rest) = if has_name wanted found then Some 1 else option_map suc (number_of wanted rest)

-- Back references, which have to name a group of the pattern. `known` has the groups of the whole
-- text, and is None where they are still to be found.
abbrev pub by_number : Option Names → Bool → ℕ → Option Tree
by_number None fold n = Some nothing
by_number (Some known) fold n = nat_le n (length known) >> Some (same fold n)

-- a back reference by name, which a group has to have once the groups are known; the flag is i
abbrev pub by_name : Option Names → Bool → Text → Option Tree
by_name None fold wanted = Some nothing
by_name (Some known) fold wanted = option_map (same fold) (number_of wanted known)

-- `.`, with the flag m and without it
abbrev pub dot_set : Bool → Set
dot_set true = negated none
dot_set false = negated (range 0x0A 0x0A)

module _ (known : Option Names) where
  -- an item that a quantifier may follow
  abbrev pub item : Body → Tree → Cursor → Option Step
  item b a p = quantified a p >>= λ (whole, rest). Some (on (with_item b whole) rest)

  -- an item that none may follow
  abbrev pub firm : Body → Tree → Cursor → Option Step
  firm b a p = Some (on (with_item b a) p)

  -- the step for an escape: no quantifier may follow an anchor, and one may follow all else
  abbrev pub escaped : Body → Cursor → Escape → Option Step
  escaped b p (char c) = item b (one_of (from_to p.flags.fold c c)) p
  escaped b p (set a) = item b (one_of a) p
  escaped b p (edge a) = firm b (anchor a) p
  escaped b p (number n) = by_number known p.flags.fold n >>= λ a. item b a p
  escaped b p (name found) = by_name known p.flags.fold found >>= λ a. item b a p

  -- The group after its opening; `inner` reads what stands in it up to its end. The flags of the
  -- outside come back there.
  abbrev pub grouped : (Cursor → Option (Tree × Cursor)) → ℕ → Body → Flags → GroupOpening × Cursor → Option Step
  grouped inner depth b flags (setting, p) = Some (on b p)
  grouped inner depth b flags (opens make, p) = do
    nat_lt depth deepest
    (a, last) ← inner p
    begins ")" last.text
    item b (make a) (record last { flags = flags; text = drop 1 last.text })

  -- one step from a place where nothing is to be passed over
  abbrev pub step : (Cursor → Option (Tree × Cursor)) → ℕ → Body → Cursor → Next → Option Step
  step inner depth b p end = Some (over p)
  step inner depth b p closer = Some (over p)
  step inner depth b p bar = Some (on (next_alternative b) (forward 1 p))
  -- a quantifier with nothing before it that it could repeat
  step inner depth b p loops = None
  step inner depth b p opener = opening (forward 1 p) >>= grouped inner depth b p.flags
  step inner depth b p bracket = class p.flags.fold depth (drop 1 p.text) >>= λ (a, rest). item b (one_of a) (record p { text = rest })
  step inner depth b p backslash = escape (drop 1 p.text) >>= λ (e, rest). escaped b (record p { text = rest }) e
  step inner depth b p dot = item b (one_of (dot_set p.flags.any)) (forward 1 p)
  step inner depth b p caret = firm b (anchor Anchor.LineStart) (forward 1 p)
  step inner depth b p dollar = firm b (anchor Anchor.LineEnd) (forward 1 p)
  step inner depth b p (plain c) = item b (one_of (from_to p.flags.fold c c)) (forward 1 p)

  -- after a step: the tree of the group, where it is over, and else what `more` reads from there
  abbrev pub after_step : (Body → Cursor → Option (Tree × Cursor)) → Body → Step → Option (Tree × Cursor)
  after_step more b (over p) = Some (tree_of_body b, p)
  after_step more b (on b' p) = more b' p

  -- What stands in a group, `depth` groups deep, up to its parenthesis or the text's end; `b` is
  -- read already. The number bounds the calls, each of which reads a character.
  unfoldable pub body : ℕ → ℕ → Body → Cursor → Option (Tree × Cursor)
  body zero depth b p = None
  body (suc n) depth b p =
      passed p >>= λ here. step (body n (depth + 1) empty_body) depth b here (next_of here.text) >>= after_step (body n depth) b

  -- the tree of a whole text and its groups
  unfoldable pub whole : Text → Option (Tree × Names)
  whole text = do
    (tree, last) ← body (suc (length text)) 0 empty_body (record { flags = record { fold = false; any = false; spaced = false }; names = []; text = text })
    is_empty last.text
    Some (tree, last.names)

-- The tree of the text; none for a text that is no pattern. It is read once for its groups, and
-- then with them.
unfoldable pub tree_of : Text → Option Tree
tree_of text = do
  (_, names) ← whole None text
  (tree, _) ← whole (Some names) text
  Some tree

-- each number above the length of the text reads the same, and `whole` takes one
abbrev pub ReadsEnough : Type 0
ReadsEnough = (known : Option Names) (n m depth : ℕ) (b : Body) (p : Cursor)
    → length p.text < n → length p.text < m → body known n depth b p ≡ body known m depth b p

-- the groups of a pattern are numbered from 1, by their opening
abbrev pub NumbersGroups : Type 0
NumbersGroups = (text : Text) (tree : Tree) → tree_of text ≡ Some tree → numbers tree ≡ numbers_from 1 (group_count tree)

-- ---- For proofs and private functions alone ----

-- the groups of the first match of the pattern in the text at the least place not below this one
abbrev pub found_in : List ℕ → List ℕ → ℕ → Option Groups
found_in pattern s from = tree_of pattern >>= λ tree. found s tree from
