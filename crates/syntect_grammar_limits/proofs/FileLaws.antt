-- Why a file gives no syntax within limits.
use Rattle.std.proofs.Common.{◌≡◌, ◌≢◌, ℕ, Bool, List, length, IsUtf8, Some, refl, sym, ap, ◌∙◌, subst, string_bytes, String}
use Rattle.std.specs.Prelude.{Result, Ok, Err, IfOk, IfErr}
use Rattle.std.specs.Global.{Global}
use Rattle.std.specs.Path.{path_file_stem}
use Rattle.std.specs.declared.io.Error.{Error}
use Rattle.syntect_grammar_limits.proofs.syntect_base_proofs.ReadLaws.{read_fault}
use Rattle.syntect_grammar_limits.specs.syntect_base.Refusals.{IsReadFault}
use Rattle.syntect_grammar_limits.specs.syntect_base.Trees.{Answer as TreeAnswer, has_bytes, RefusesText}
use Rattle.syntect_grammar_limits.specs.syntect_base.declared.limits.Limits.{Limits}
use Rattle.syntect_grammar_limits.specs.syntect_base.declared.limits.LimitReached.{LimitReached}
use Rattle.syntect_grammar_limits.specs.syntect_base.declared.limits.LoadWithinError.TheVariants as within
use Rattle.syntect_grammar_limits.specs.syntect_base.declared.loading.LoadingError.{LoadingError}
use Rattle.syntect_grammar_limits.specs.syntect_base.declared.loading.LoadingError.TheVariants as loading
use Rattle.syntect_grammar_limits.specs.syntect_base.declared.syntax.ParseSyntaxError.{ParseSyntaxError}
use Rattle.syntect_grammar_limits.specs.syntect_base.declared.syntax.ParseSyntaxError.TheVariants as syntax
use Rattle.syntect_grammar_limits.specs.FilesWithin.{room_after, IsSyntaxWithin, RefusesSyntaxWithin, RefusesCounted, IsReadWithin, RefusesReadWithin, no_grammar, too_much, no_memory, refused, not_read, of_bytes, no_memory_here}
use Rattle.syntect_grammar_limits.specs.declared.folder_error.FolderWithinError.{FolderWithinError}
use Rattle.syntect_grammar_limits.specs.declared.folder_error.FolderWithinError.TheVariants as error
use Rattle.syntect_grammar_limits.specs.syntect_grammar_loader.Files.{RefusesSyntax}
use Rattle.syntect_grammar_limits.specs.syntect_grammar_loader.Files as files
use Rattle.syntect_grammar_limits.specs.syntect_grammar_loader.Loading.{loaded}
use Rattle.syntect_grammar_limits.specs.syntect_grammar_loader.LoadingSteps.{Refusal, Fails, refusal_of_error}
use Rattle.syntect_grammar_limits.specs.syntect_grammar_loader.declared.definition.SyntaxDefinition.{SyntaxDefinition}
use Rattle.syntect_grammar_limits.specs.Limited.{Left, left_of, LoadsWithin}

-- ---- texts ----

-- a text that is no grammar, told with the path
module _ (newlines : Bool) (path bytes : List ℕ) (repo : List (List ℕ)) (text : IsUtf8 bytes) (shown : String Global) (told : string_bytes shown ≡ path) where
  is_refused : (e : ParseSyntaxError) (r : Refusal) → refusal_of_error e ≡ Some r → Fails (loaded bytes newlines (path_file_stem path) repo) e → RefusesSyntax newlines path bytes repo (loading.ParseSyntax e shown)
  is_refused e r s f = files.no_grammar {reason = r} text (f r s) s told

  pub told_with_path : (e : ParseSyntaxError) → e ≢ syntax.Memory → Fails (loaded bytes newlines (path_file_stem path) repo) e → RefusesSyntax newlines path bytes repo (loading.ParseSyntax e shown)
  told_with_path syntax.InvalidYaml n f = is_refused syntax.InvalidYaml _ refl f
  told_with_path syntax.EmptyFile n f = is_refused syntax.EmptyFile _ refl f
  told_with_path (syntax.MissingMandatoryKey key) n f = is_refused (syntax.MissingMandatoryKey key) _ refl f
  told_with_path (syntax.RegexCompileError pattern e) n f = is_refused (syntax.RegexCompileError pattern e) _ refl f
  told_with_path (syntax.InvalidScope e) n f = is_refused (syntax.InvalidScope e) _ refl f
  told_with_path syntax.BadFileRef n f = is_refused syntax.BadFileRef _ refl f
  told_with_path syntax.MainMissing n f = is_refused syntax.MainMissing _ refl f
  told_with_path syntax.TypeMismatch n f = is_refused syntax.TypeMismatch _ refl f
  told_with_path syntax.Memory n f = absurd (n refl)

module _ (limits : Limits) (newlines : Bool) (path bytes : List ℕ) (old new : List (List ℕ)) (text : IsUtf8 bytes) where
  abbrev Answer : Type 0
  Answer = Result (SyntaxDefinition × List (List ℕ)) Refusal

  abbrev answer : Answer
  answer = loaded bytes newlines (path_file_stem path) old

  module _ (shown : String Global) (told : string_bytes shown ≡ path) where
    limited_by : (l : Left) → left_of limits bytes ≡ l → (r : LimitReached) → LoadsWithin l answer (Err (within.LimitReached r)) new
        → RefusesSyntaxWithin limits newlines path bytes old (error.LimitReached r shown)
    limited_by (Ok left) q r f = absurd f
    limited_by (Err s) q r f = too_much text (q ∙ ap (λ (x : LimitReached). Err x) (sym f)) told

    pub limit_told : (r : LimitReached) → LoadsWithin (left_of limits bytes) answer (Err (within.LimitReached r)) new → RefusesSyntaxWithin limits newlines path bytes old (error.LimitReached r shown)
    limit_told r f = limited_by (left_of limits bytes) refl r f

  -- a refusal within the limits is that of the text, and past them there was no memory
  refused_by : (l : Left) → left_of limits bytes ≡ l → (e : ParseSyntaxError) (r : LoadingError) → (Fails answer e → RefusesSyntax newlines path bytes old r) → (e ≡ syntax.Memory → r ≡ loading.Memory)
      → LoadsWithin l answer (Err (within.Refused e)) new → RefusesSyntaxWithin limits newlines path bytes old (error.Refused r)
  refused_by (Ok left) q e r t m f = no_grammar {left = left} q (t f)
  refused_by (Err s) q e r t m f = subst (λ (x : LoadingError). RefusesSyntaxWithin limits newlines path bytes old (error.Refused x)) (sym (m f)) no_memory

  pub refused_within : (e : ParseSyntaxError) (r : LoadingError) → (Fails answer e → RefusesSyntax newlines path bytes old r) → (e ≡ syntax.Memory → r ≡ loading.Memory)
      → LoadsWithin (left_of limits bytes) answer (Err (within.Refused e)) new → RefusesSyntaxWithin limits newlines path bytes old (error.Refused r)
  refused_within e r t m f = refused_by (left_of limits bytes) refl e r t m f

  -- what is answered keeps within the limits
  loaded_by : (l : Left) → left_of limits bytes ≡ l → (d : SyntaxDefinition) → LoadsWithin l answer (Ok d) new → IsSyntaxWithin limits newlines path old bytes new d
  loaded_by (Ok left) q d f = record { syntax = record { text = text; loads = f }; left = left; within = q }
  loaded_by (Err r) q d f = absurd f

  pub loaded_within : (d : SyntaxDefinition) → LoadsWithin (left_of limits bytes) answer (Ok d) new → IsSyntaxWithin limits newlines path old bytes new d
  loaded_within d f = loaded_by (left_of limits bytes) refl d f

-- ---- files ----

module _ (limits : Limits) (newlines : Bool) (path : List ℕ) (repo : List (List ℕ)) (room : ℕ) where
  pub any_refused : {A : Type 0} (bytes : List ℕ) (left : ℕ) (r : Result A FolderWithinError) → room_after room (length bytes) ≡ Some left → IfErr r (RefusesSyntaxWithin limits newlines path bytes repo)
      → IfErr r (RefusesCounted limits newlines path bytes repo room)
  any_refused bytes left (Ok x) l h = tt
  any_refused bytes left (Err e) l h = refused {left = left} l h

  pub any_left : {A E : Type 0} (r : Result A E) (bytes : List ℕ) (left : ℕ) → room_after room (length bytes) ≡ Some left → IfOk r (λ d. room_after room (length bytes) ≡ Some left)
  any_left (Ok d) bytes left l = l
  any_left (Err e) bytes left l = tt

  module _ (Told : TreeAnswer → Type 0) where
    -- a file that gives no text
    pub no_text_read : (e : Error) (r : LoadingError) → RefusesText Told path e → IsReadFault e r → RefusesReadWithin Told limits newlines path repo room (error.Refused r)
    no_text_read e r t f = read_fault (λ (x : LoadingError). RefusesReadWithin Told limits newlines path repo room (error.Refused x)) e no_memory_here (λ k. not_read {e = e} t k) r f

    module _ (bytes text : List ℕ) (same : text ≡ bytes) (told : Told (has_bytes path bytes)) where
      has_read : Told (has_bytes path text)
      has_read = subst (λ (b : List ℕ). Told (has_bytes path b)) (sym same) told

      -- what is refused of the text that was read, and what is made of it
      pub text_refused : {A : Type 0} (r : Result A FolderWithinError) → IfErr r (RefusesCounted limits newlines path text repo room) → IfErr r (RefusesReadWithin Told limits newlines path repo room)
      text_refused (Ok d) h = tt
      text_refused (Err e) h = of_bytes has_read h

      pub text_gives : {E : Type 0} (left : ℕ) (new : List (List ℕ)) (r : Result SyntaxDefinition E) → IfOk r (λ d. room_after room (length text) ≡ Some left) → IfOk r (IsSyntaxWithin limits newlines path repo text new)
          → IfOk r (IsReadWithin Told limits newlines path repo room new left)
      text_gives left new (Ok d) l h = (text, has_read, l, h)
      text_gives left new (Err e) l h = tt
