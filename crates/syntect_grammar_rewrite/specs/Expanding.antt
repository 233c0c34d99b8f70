-- What is left to write while variables are expanded.
use Rattle.std.specs.Prelude.{◌≡◌, ℕ, ◌+◌, ◌*◌, ◌<◌, ◌≤◌, Bool, false, ⊤, List, [], ◌∷◌, ◌++◌, length, bytes_eq, unwrap_or}
use Rattle.std.specs.List.{All, list_any}
use Rattle.std.specs.Map.{lookup, keys_of}
use Rattle.syntect_grammar_rewrite.specs.Marking.{marked_value, marked}
use Rattle.syntect_grammar_rewrite.specs.Variables.{Variables, without, value_by, expanded}
use Rattle.syntect_grammar_rewrite.specs.declared.expand.Frame.{Frame}

-- ---- For proofs and private functions alone ----

-- the variables that may be used in the text of the last frame's
abbrev pub inner : Variables → List Frame → Variables
inner variables [] = variables
inner variables (f ∷ fs) = inner (without f.name variables) fs

-- what is left to write: the text that is read in the last frame, then what follows the use that
-- each frame was opened for
abbrev pub left : List ℕ → Variables → List Frame → List ℕ → List ℕ
left mark variables [] t = marked mark variables t
left mark variables (f ∷ fs) t =
    left mark (without f.name variables) fs t ++ marked mark variables f.rest.now

-- how many turns are left: each writes, or opens a frame, or closes one
abbrev pub turns : Variables → List Frame → List ℕ → ℕ
turns variables fs t = 2 * length (left (0 ∷ []) variables fs t) + length fs

-- whether the name is kept as that of a variable whose text is being read
abbrev pub is_open : List ℕ → List (List ℕ × Bool) → Bool
is_open name marks = unwrap_or (lookup (bytes_eq name) marks) false

-- whether a frame was opened for the variable of this name
abbrev pub is_among : List ℕ → List Frame → Bool
is_among name fs = list_any (λ f. bytes_eq f.name name) fs

-- each variable has one frame at most
abbrev pub AreApart : List Frame → Type 0
AreApart [] = ⊤
AreApart (f ∷ fs) = (is_among f.name fs ≡ false) × AreApart fs

-- the variables that have a frame are those whose names are kept so
pub record AreOpen (marks : List (List ℕ × Bool)) (fs : List Frame) : Type 0 where
  pub names : (name : List ℕ) → is_open name marks ≡ is_among name fs
  pub apart : AreApart fs

-- what the use of a name stands for
abbrev pub use_value : Variables → List ℕ → List ℕ
use_value variables name = value_by expanded variables name (lookup (bytes_eq name) variables)

-- the use of the name stands for nothing: as its variable's text has nothing but uses that stand
-- for nothing in it, or as there is no such variable
abbrev pub Vanishes : Variables → List ℕ → Type 0
Vanishes variables name = use_value variables name ≡ []

-- each of the names that are remembered stands for nothing
abbrev pub AllVanish : Variables → List (List ℕ × Bool) → Type 0
AllVanish variables known = All (Vanishes variables) (keys_of known)

-- Of each frame: `start` is at most how much is written, and where it is that, so that nothing was
-- written since the frame was opened, then what is left to write in the frame is all that its use
-- stands for.
abbrev pub AreTraced : Variables → List Frame → List ℕ → ℕ → Type 0
AreTraced variables [] t written = ⊤
AreTraced variables (f ∷ fs) t written =
    (f.start ≡ written → left [] (without f.name variables) fs t ≡ use_value variables f.name)
    × (f.start ≤ written) × AreTraced (without f.name variables) fs t written

-- the text t begins with the use of a variable of this name, after which another follows
abbrev pub BeginsWithUse : List ℕ → List ℕ → List ℕ → Type 0
BeginsWithUse name after t =
    (mark : List ℕ) (us : Variables)
    → marked mark us t
    ≡ marked_value mark (marked mark) us name (lookup (bytes_eq name) us) ++ marked mark us after

-- After the use of a variable the text `after` follows. From the frames fs a step is made to the
-- frames gs and what is read there, by which the use's mark alone is written.
abbrev pub GoesInto : Variables → List Frame → List ℕ → List ℕ → List Frame → List ℕ → Type 0
GoesInto variables fs name after gs next =
    (t : List ℕ)
    → BeginsWithUse name after t
    → (mark : List ℕ) → left mark variables fs t ≡ mark ++ left mark variables gs next

-- After the use of a variable the text `after` follows. From the frames fs a step is made to the
-- frames gs and what is read there, by which nothing is written, and which is one of the turns.
abbrev pub Enters : Variables → List Frame → List (List ℕ × Bool) → ℕ → List ℕ → List ℕ → List Frame
    → List ℕ → Type 0
Enters variables fs known written name after gs next =
    (t : List ℕ)
    → BeginsWithUse name after t
    → AreTraced variables fs t written
    → (left [] variables fs t ≡ left [] variables gs next)
    × (turns variables gs next < turns variables fs t) × AreTraced variables gs next written
    × AllVanish (inner variables gs) known

-- at the end of a text a step is made from the frames fs to the frames gs and what is read there,
-- by which nothing is written
abbrev pub Closes : List Frame → List (List ℕ × Bool) → ℕ → List Frame → List (List ℕ × Bool)
    → List ℕ → Type 0
Closes fs known written gs later next =
    (variables : Variables) (t : List ℕ)
    → length t ≡ 0
    → AreTraced variables fs t written
    → AllVanish (inner variables fs) known
    → ((mark : List ℕ) → left mark variables fs t ≡ left mark variables gs next)
    × AreTraced variables gs next written × AllVanish (inner variables gs) later
