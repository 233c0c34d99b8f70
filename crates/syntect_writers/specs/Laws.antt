-- Laws of lines with classes.
use Rattle.std.specs.Prelude.{◌≡◌, ℕ, List, [], ◌∷◌, ◌++◌, length, map, replicate}
use Rattle.std.specs.List.{flat_map}
use Rattle.syntect_writers.specs.Classes.{closing_tag}
use Rattle.syntect_writers.specs.Marks.{Mark, marks, written, stack_after}
use Rattle.syntect_writers.specs.Page.{read, under, shown, open_behind, bytes_under, IsNested}
use Rattle.syntect_writers.specs.syntect_scope.Replay.{InOrder, replay, before_text, bytes_to}
use Rattle.syntect_writers.specs.syntect_scope.declared.stack.ScopeStack.{ScopeStack}
use Rattle.syntect_writers.specs.syntect_scope.declared.stack.ScopeStackOp.{ScopeStackOp}

-- A reader of what marks write sees the text under them: each byte, as HTML writes it, under the
-- tags of the scopes that are open there. No closing tag comes where none is open, and in the end
-- the tags of the scopes are open that are left.
abbrev pub IsSeen : Type 0
IsSeen =
    (prefix : List ℕ) (repo scopes : List (List ℕ)) (seen : List (ℕ × List (List ℕ)))
    (ms : List Mark) → IsNested scopes ms
    → read (under prefix repo scopes seen) (written prefix repo ms)
    ≡ under prefix repo (open_behind scopes ms)
    (seen ++ flat_map (shown prefix repo) (bytes_under scopes ms))

-- The marks of a line are nested, leave the scopes of the stack open, and have each byte of the
-- line under the scopes that the operations give it.
pub record Follows (line : List ℕ) (stack : ScopeStack)
    (ops : List (ℕ × ScopeStackOp)) : Type 0 where
  pub nested : IsNested stack.scopes (marks line 0 stack ops)
  pub left_open : open_behind stack.scopes (marks line 0 stack ops) ≡ (stack_after stack ops).scopes
  pub text : map (λ p. p.0) (bytes_under stack.scopes (marks line 0 stack ops)) ≡ line
  pub scopes : map (λ p. p.1) (bytes_under stack.scopes (marks line 0 stack ops))
      ≡ bytes_to (replay ops (before_text stack)) (length line)

abbrev pub MarksFollow : Type 0
MarksFollow = (line : List ℕ) (stack : ScopeStack) (ops : List (ℕ × ScopeStackOp))
    → InOrder line 0 ops (length line) → Follows line stack ops

-- ---- a whole page ----

-- a line, and its operations
abbrev pub Line : Type 0
Line = List ℕ × List (ℕ × ScopeStackOp)

-- the operations of each line are in order
abbrev pub AreInOrder : List Line → Type 0
AreInOrder [] = Unit {0}
AreInOrder (l ∷ ls) = InOrder l.0 0 l.1 (length l.0) × AreInOrder ls

-- The text of lines, one after another, on the stack that those before leave; after them all spans
-- are closed that are open.
abbrev pub page_text : List ℕ → List (List ℕ) → ScopeStack → List Line → List ℕ
page_text prefix repo stack [] = flat_map (λ tag. tag) (replicate (length stack.scopes) closing_tag)
page_text prefix repo stack (l ∷ ls) =
    written prefix repo (marks l.0 0 stack l.1) ++ page_text prefix repo (stack_after stack l.1) ls

-- the scopes that the operations give each byte of the lines
abbrev pub page_scopes : ScopeStack → List Line → List (List (List ℕ))
page_scopes stack [] = []
page_scopes stack (l ∷ ls) =
    bytes_to (replay l.1 (before_text stack)) (length l.0) ++ page_scopes (stack_after stack l.1) ls

-- A reader of a page that begins under the tags of a stack sees the lines, joined: each byte, as
-- HTML writes it, under the tags of the scopes that the operations give it. No closing tag comes
-- where none is open, and in the end none is open.
pub record IsSeenPage (prefix : List ℕ) (repo : List (List ℕ)) (stack : ScopeStack)
    (seen : List (ℕ × List (List ℕ))) (lines : List Line) : Type 0 where
  pub bytes : List (ℕ × List (List ℕ))
  pub read_back : read (under prefix repo stack.scopes seen) (page_text prefix repo stack lines)
      ≡ under prefix repo [] (seen ++ flat_map (shown prefix repo) bytes)
  pub text : map (λ p. p.0) bytes ≡ flat_map (λ l. l.0) lines
  pub scopes : map (λ p. p.1) bytes ≡ page_scopes stack lines

abbrev pub PagesAreSeen : Type 0
PagesAreSeen =
    (prefix : List ℕ) (repo : List (List ℕ)) (stack : ScopeStack) (seen : List (ℕ × List (List ℕ)))
    (lines : List Line) → AreInOrder lines → IsSeenPage prefix repo stack seen lines
