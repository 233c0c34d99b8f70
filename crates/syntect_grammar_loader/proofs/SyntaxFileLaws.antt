-- Why a file gives no syntax.
use Rattle.std.proofs.Common.{◌≡◌, ◌≢◌, ℕ, Bool, List, IsUtf8, Some, sym, subst, refl, string_bytes, String}
use Rattle.std.specs.Prelude.{Result, Ok, Err, IfOk, IfErr}
use Rattle.std.specs.Global.{Global}
use Rattle.std.specs.Path.{path_file_stem}
use Rattle.std.specs.declared.io.Error.{Error}
use Rattle.syntect_base.proofs.ReadLaws.{read_fault}
use Rattle.syntect_base.specs.Refusals.{IsReadFault}
use Rattle.syntect_base.specs.Trees.{Answer, has_bytes, RefusesText}
use Rattle.syntect_base.specs.declared.loading.LoadingError.{LoadingError}
use Rattle.syntect_base.specs.declared.loading.LoadingError.TheVariants as loading
use Rattle.syntect_base.specs.declared.syntax.ParseSyntaxError.{ParseSyntaxError}
use Rattle.syntect_base.specs.declared.syntax.ParseSyntaxError.TheVariants as syntax
use Rattle.syntect_grammar_loader.specs.Files.{RefusesSyntax, RefusesRead, no_grammar, no_memory, not_read, refused, no_room}
use Rattle.syntect_grammar_loader.specs.Loading.{loaded}
use Rattle.syntect_grammar_loader.specs.LoadingSteps.{Refusal, Fails, refusal_of_error}

-- a file that gives no text gives no syntax
module _ (Told : Answer → Type 0) (newlines : Bool) (path : List ℕ) (repo : List (List ℕ)) where
  pub no_text_no_syntax : (e : Error) (r : LoadingError) → RefusesText Told path e → IsReadFault e r → RefusesRead Told newlines path repo r
  no_text_no_syntax e r t f = read_fault (RefusesRead Told newlines path repo) e no_room (λ k. not_read {e = e} t k) r f

  module _ (bytes text : List ℕ) (same : text ≡ bytes) (told : Told (has_bytes path bytes)) where
    has_read : Told (has_bytes path text)
    has_read = subst (λ (b : List ℕ). Told (has_bytes path b)) (sym same) told

    -- what is refused of the text that was read, and what is made of it
    pub text_refused : {A : Type 0} (r : Result A LoadingError) → IfErr r (RefusesSyntax newlines path text repo) → IfErr r (RefusesRead Told newlines path repo)
    text_refused (Ok d) h = tt
    text_refused (Err e) h = refused has_read h

    pub text_gives : {A : Type 0} (P : List ℕ → A → Type 0) (r : Result A LoadingError) → IfOk r (P text) → IfOk r (λ d. (all : List ℕ) × Told (has_bytes path all) × P all d)
    text_gives P (Ok d) h = (text, has_read, h)
    text_gives P (Err e) h = tt

-- a text that is no grammar, told with the path
module _ (newlines : Bool) (path : List ℕ) (repo : List (List ℕ)) (bytes : List ℕ) (text : IsUtf8 bytes) (shown : String Global) (told : string_bytes shown ≡ path) where
  is_refused : (e : ParseSyntaxError) (r : Refusal) → refusal_of_error e ≡ Some r → Fails (loaded bytes newlines (path_file_stem path) repo) e → RefusesSyntax newlines path bytes repo (loading.ParseSyntax e shown)
  is_refused e r s f = no_grammar {reason = r} text (f r s) s told

pub told_with_path : (newlines : Bool) (path : List ℕ) (repo : List (List ℕ)) (bytes : List ℕ) (shown : String Global) (e : ParseSyntaxError) → IsUtf8 bytes → string_bytes shown ≡ path → e ≢ syntax.Memory
    → Fails (loaded bytes newlines (path_file_stem path) repo) e → RefusesSyntax newlines path bytes repo (loading.ParseSyntax e shown)
told_with_path newlines path repo bytes shown syntax.InvalidYaml u t n f = is_refused newlines path repo bytes u shown t syntax.InvalidYaml _ refl f
told_with_path newlines path repo bytes shown syntax.EmptyFile u t n f = is_refused newlines path repo bytes u shown t syntax.EmptyFile _ refl f
told_with_path newlines path repo bytes shown (syntax.MissingMandatoryKey key) u t n f = is_refused newlines path repo bytes u shown t (syntax.MissingMandatoryKey key) _ refl f
told_with_path newlines path repo bytes shown (syntax.RegexCompileError pattern e) u t n f = is_refused newlines path repo bytes u shown t (syntax.RegexCompileError pattern e) _ refl f
told_with_path newlines path repo bytes shown (syntax.InvalidScope e) u t n f = is_refused newlines path repo bytes u shown t (syntax.InvalidScope e) _ refl f
told_with_path newlines path repo bytes shown syntax.BadFileRef u t n f = is_refused newlines path repo bytes u shown t syntax.BadFileRef _ refl f
told_with_path newlines path repo bytes shown syntax.MainMissing u t n f = is_refused newlines path repo bytes u shown t syntax.MainMissing _ refl f
told_with_path newlines path repo bytes shown syntax.TypeMismatch u t n f = is_refused newlines path repo bytes u shown t syntax.TypeMismatch _ refl f
told_with_path newlines path repo bytes shown syntax.Memory u t n f = absurd (n refl)
