-- Spans while they are written.
use Rattle.std.specs.Prelude.{◌≡◌, ℕ, List, ◌++◌, string_bytes}
use Rattle.syntect_writers.specs.Marks.{Mark, written, behind}
use Rattle.syntect_writers.specs.declared.marks.Spans.{Spans}

-- ---- For proofs and private functions alone ----

-- the text so far, and the tag that waits with the marks after it
abbrev pub all_written : List ℕ → List (List ℕ) → Spans → List Mark → List ℕ
all_written prefix repo s ms = string_bytes s.text ++ written prefix repo (behind s.waiting ms)

-- marks were put after what stood there
pub record Puts (prefix : List ℕ) (repo : List (List ℕ)) (before : Spans) (ms : List Mark)
    (after : Spans) : Type 0 where
  pub put : (more : List Mark)
      → all_written prefix repo after more ≡ all_written prefix repo before (ms ++ more)
