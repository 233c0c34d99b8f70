-- Why a file gives no head.
use Rattle.std.proofs.Common.{◌≡◌, ℕ, ◌-◌, ◌^◌, List, IsUtf8, length, Some, refl, sym, subst}
use Rattle.std.specs.Prelude.{Result, Ok, Err, IfOk, IfErr, false, None}
use Rattle.std.specs.Path.{path_file_stem}
use Rattle.std.specs.IoError.{error_kind}
use Rattle.std.specs.declared.io.Error.{Error}
use Rattle.std.specs.declared.io.ErrorKind.TheVariants.{InvalidData}
use Rattle.syntect_grammar_limits.proofs.syntect_base_proofs.ReadLaws.{read_fault}
use Rattle.syntect_grammar_limits.specs.FilesWithin.{room_after, IsSyntaxWithin, RefusesSyntaxWithin, IsReadWithin, RefusesReadWithin, refused}
use Rattle.syntect_grammar_limits.specs.FilesWithin as within
use Rattle.syntect_grammar_limits.specs.declared.folder_error.FolderWithinError.{FolderWithinError}
use Rattle.syntect_grammar_limits.specs.declared.folder_error.FolderWithinError.TheVariants.{Refused}
use Rattle.syntect_grammar_limits.specs.syntect_base.Refusals.{IsReadFault}
use Rattle.syntect_grammar_limits.specs.syntect_base.Trees.{Answer, has_bytes, not_read as unread_file}
use Rattle.syntect_grammar_limits.specs.syntect_base.declared.loading.LoadingError.{LoadingError}
use Rattle.syntect_grammar_limits.specs.syntect_base.declared.loading.LoadingError.TheVariants.{Memory}
use Rattle.syntect_grammar_limits.specs.syntect_base.declared.syntax.ParseSyntaxError.{ParseSyntaxError}
use Rattle.syntect_grammar_limits.specs.syntect_grammar_loader.Loading.{loaded}
use Rattle.syntect_grammar_limits.specs.syntect_grammar_loader.LoadingSteps.{Finds, Refusal}
use Rattle.syntect_grammar.specs.PlainText.{plain_text}
use Rattle.syntect_grammar_limits.specs.syntect_grammar_loader.declared.definition.SyntaxDefinition.{SyntaxDefinition}
use Rattle.syntect_shelf.specs.Heads.{IsHeadIn, IsHeadRead, IsPastFolder, no_room, RefusesBytes, no_text, no_memory, RefusesHead, not_read, of_bytes, no_memory_here}
use Rattle.syntect_shelf.specs.Gathering.{IsWholeOf, of_file, of_plain_text, RefusesGrammar, of_file_refused, no_plain_text, RefusesPlainText, without_memory}
use Rattle.syntect_shelf.specs.declared.grammar.Loading.{Loading}
use Rattle.syntect_shelf.specs.declared.grammar.Source.{Source}
use Rattle.syntect_shelf.specs.declared.grammar.Source.TheVariants.{File, PlainText}

-- it was not read
pub not_read_whole : (Told : Answer → Type 0) (path : List ℕ) (room : ℕ) (e : Error) (r : LoadingError) → Told (unread_file path e) → IsReadFault e r → RefusesHead Told path room (Refused r)
not_read_whole Told path room e r t f = read_fault (λ (x : LoadingError). RefusesHead Told path room (Refused x)) e no_memory_here (λ k. not_read {e = e} t k) r f

-- what was read is no text
pub not_text : (path bytes : List ℕ) (e : Error) (r : LoadingError) → ¬ (IsUtf8 bytes) → error_kind e ≡ InvalidData → IsReadFault e r → RefusesBytes path bytes (Refused r)
not_text path bytes e r n k f = read_fault (λ (x : LoadingError). RefusesBytes path bytes (Refused x)) e no_memory (λ m. no_text {e = e} n k) r f

pub no_memory_for : (path bytes : List ℕ) (e : FolderWithinError) → e ≡ Refused Memory → RefusesBytes path bytes e
no_memory_for path bytes e h = subst (λ (x : FolderWithinError). RefusesBytes path bytes x) (sym h) no_memory

pub no_memory_past : (path : List ℕ) (e : FolderWithinError) → e ≡ Refused Memory → IsPastFolder path e
no_memory_past path e h = subst (λ (x : FolderWithinError). IsPastFolder path x) (sym h) no_room

-- the bytes that were read give a head, or none
pub head_gives : (Told : Answer → Type 0) (path bytes text : List ℕ) (room left : ℕ) (new : List (List ℕ)) (r : Result SyntaxDefinition FolderWithinError) → text ≡ bytes → Told (has_bytes path bytes) → room_after room (length bytes) ≡ Some left
    → IfOk r (IsHeadIn text (path_file_stem path) new) → IfOk r (IsHeadRead Told path room new left)
head_gives Told path bytes text room left new (Ok d) same told l h = record { bytes = bytes; told = told; counted = l; head = subst (λ (b : List ℕ). IsHeadIn b (path_file_stem path) new d) same h }
head_gives Told path bytes text room left new (Err e) same told l h = tt

pub head_refused : (Told : Answer → Type 0) (path bytes text : List ℕ) (room left : ℕ) (r : Result SyntaxDefinition FolderWithinError) → text ≡ bytes → Told (has_bytes path bytes) → room_after room (length bytes) ≡ Some left
    → IfErr r (RefusesBytes path text) → IfErr r (RefusesHead Told path room)
head_refused Told path bytes text room left (Ok d) same told l h = tt
head_refused Told path bytes text room left (Err e) same told l h = of_bytes told l (subst (λ (b : List ℕ). RefusesBytes path b e) same h)

-- ---- whole definitions ----

module _ (Told : Answer → Type 0) (loading : Loading) (path : List ℕ) (old : List (List ℕ)) where
  abbrev pub Read : List (List ℕ) → SyntaxDefinition → Type 0
  Read new d = IsReadWithin Told loading.limits loading.lines_include_newline path old (2 ^ 64 - 1) new (2 ^ 64 - 1) d

  abbrev pub Refuses : FolderWithinError → Type 0
  Refuses e = RefusesReadWithin Told loading.limits loading.lines_include_newline path old (2 ^ 64 - 1) e

  -- the text that was read gives a definition, or none
  pub text_gives : {E : Type 0} (bytes text : List ℕ) (new : List (List ℕ)) (r : Result SyntaxDefinition E) → text ≡ bytes → Told (has_bytes path bytes)
      → IfOk r (IsSyntaxWithin loading.limits loading.lines_include_newline path old text new) → IfOk r (Read new)
  text_gives bytes text new (Ok d) same told h = (text, subst (λ (b : List ℕ). Told (has_bytes path b)) (sym same) told, refl, h)
  text_gives bytes text new (Err e) same told h = tt

  pub text_refused : {A : Type 0} (bytes text : List ℕ) (r : Result A FolderWithinError) → text ≡ bytes → Told (has_bytes path bytes)
      → IfErr r (RefusesSyntaxWithin loading.limits loading.lines_include_newline path text old) → IfErr r Refuses
  text_refused bytes text (Ok d) same told h = tt
  text_refused bytes text (Err e) same told h = within.of_bytes (subst (λ (b : List ℕ). Told (has_bytes path b)) (sym same) told) (refused {left = 2 ^ 64 - 1} refl h)

-- a grammar in a file
module _ (Told : Answer → Type 0) (loading : Loading) (path text : List ℕ) (old : List (List ℕ)) where
  pub file_gives : (new : List (List ℕ)) (source : Source) (r : Result SyntaxDefinition FolderWithinError) → text ≡ path → source ≡ File path
      → IfOk r (IsReadWithin Told loading.limits loading.lines_include_newline text old (2 ^ 64 - 1) new (2 ^ 64 - 1)) → IfOk r (λ d. IsWholeOf Told loading old new d source)
  file_gives new source (Ok d) same s h = subst (λ (x : Source). IsWholeOf Told loading old new d x) (sym s)
      (of_file (subst (λ (p : List ℕ). IsReadWithin Told loading.limits loading.lines_include_newline p old (2 ^ 64 - 1) new (2 ^ 64 - 1) d) same h))
  file_gives new source (Err e) same s h = tt

  pub file_refused : (source : Source) (r : Result SyntaxDefinition FolderWithinError) → text ≡ path → source ≡ File path
      → IfErr r (RefusesReadWithin Told loading.limits loading.lines_include_newline text old (2 ^ 64 - 1)) → IfErr r (λ e. RefusesGrammar Told loading old e source)
  file_refused source (Ok d) same s h = tt
  file_refused source (Err e) same s h = subst (λ (x : Source). RefusesGrammar Told loading old e x) (sym s)
      (of_file_refused (subst (λ (p : List ℕ). RefusesReadWithin Told loading.limits loading.lines_include_newline p old (2 ^ 64 - 1) e) same h))

-- plain text
pub text_found : (new : List (List ℕ)) (answer : Result (SyntaxDefinition × List (List ℕ)) Refusal) (r : Result SyntaxDefinition ParseSyntaxError) → Finds (λ (d : SyntaxDefinition). (d, new)) r answer → IfOk r (λ d. answer ≡ Ok (d, new))
text_found new answer (Ok d) h = h
text_found new answer (Err e) h = tt

module _ (Told : Answer → Type 0) (loading : Loading) (old : List (List ℕ)) (source : Source) where
  pub plain_gives : (new : List (List ℕ)) (d : SyntaxDefinition) → source ≡ PlainText → loaded plain_text false None old ≡ Ok (d, new) → IsWholeOf Told loading old new d source
  plain_gives new d s h = subst (λ (x : Source). IsWholeOf Told loading old new d x) (sym s) (of_plain_text h)

  pub plain_refused : (e : FolderWithinError) → source ≡ PlainText → RefusesPlainText old e → RefusesGrammar Told loading old e source
  plain_refused e s h = subst (λ (x : Source). RefusesGrammar Told loading old e x) (sym s) (no_plain_text h)

pub plain_no_memory : (repository : List (List ℕ)) (e : FolderWithinError) → e ≡ Refused Memory → RefusesPlainText repository e
plain_no_memory repository e h = subst (λ (x : FolderWithinError). RefusesPlainText repository x) (sym h) without_memory
