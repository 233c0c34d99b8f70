-- The sheet of two themes has no `<`.
use Rattle.std.proofs.Common.{◌≡◌, ℕ, true, List, ◌++◌, codes, refl, sym, ap, ◌∙◌}
use Rattle.std.specs.List.{list_all}
use Rattle.std.proofs.lemmas.List.Folds.{list_all-append}
use Rattle.syntect_documents.specs.syntect_writers.Comment.{stays_inside}
use Rattle.syntect_documents.specs.Sheets.{block, dark_head, light_head, two_sheets}
use Rattle.syntect_documents.specs.declared.sheet.Choice.{Choice}
use Rattle.syntect_documents.specs.declared.sheet.Choice.TheVariants.{Preference, RootClass}

abbrev inside : List ℕ → Type 0
inside bs = list_all stays_inside bs ≡ true

joined : (xs ys : List ℕ) → inside xs → inside ys → inside (xs ++ ys)
joined xs ys e f = list_all-append stays_inside xs ys ∙ rw (e) f

block_inside : (head sheet : List ℕ) → inside head → inside sheet → inside (block head sheet)
block_inside head sheet h s = joined head (codes " {\n" ++ (sheet ++ codes "}\n")) h (joined (codes " {\n") (sheet ++ codes "}\n") refl (joined sheet (codes "}\n") s refl))

light_inside : (by : Choice) → inside (light_head by)
light_inside Preference = refl
light_inside RootClass = refl

dark_inside : (by : Choice) → inside (dark_head by)
dark_inside Preference = refl
dark_inside RootClass = refl

pub two_inside : (by : Choice) (light dark all : List ℕ) → all ≡ two_sheets by light dark → list_all stays_inside light ≡ true → list_all stays_inside dark ≡ true → list_all stays_inside all ≡ true
two_inside by light dark all e l d =
    ap (list_all stays_inside) e ∙ joined (block (light_head by) light) (block (dark_head by) dark) (block_inside (light_head by) light (light_inside by) l) (block_inside (dark_head by) dark (dark_inside by) d)
