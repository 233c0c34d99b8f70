-- The words that ask for a text.
use Rattle.std.specs.Prelude.{◌≡◌, ℕ, List, [], ◌∷◌, codes}
use Rattle.syntect_cat.specs.declared.job.Format.{Format}
use Rattle.syntect_cat.specs.declared.job.Format.TheVariants.{Html, Terminal}
use Rattle.syntect_cat.specs.declared.job.Job.{Job}

-- ---- For proofs and private functions alone ----

-- the word of a format
abbrev pub format_word : Format → List ℕ
format_word Html = codes "html"
format_word Terminal = codes "term"

-- the words that ask for a file of this path, in a format, by the grammars of a folder and a theme
abbrev pub words_for : List ℕ → List ℕ → Format → List ℕ → List (List ℕ)
words_for folder theme format file = folder ∷ (theme ∷ (format_word format ∷ (file ∷ [])))

-- the words of a job
abbrev pub words_of : Job → List (List ℕ)
words_of job = words_for job.folder.now job.theme.now job.format job.file.now

-- the words ask for something
abbrev pub AreWords : List (List ℕ) → Type 0
AreWords words =
    (folder theme file : List ℕ) × (format : Format) × (words ≡ words_for folder theme format file)
