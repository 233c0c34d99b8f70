-- Sets of plain text and of the grammars in a folder.
use Rattle.std.proofs.Common.{◌≡◌, ℕ, Bool, true, false, List, [], ◌∷◌, ◌++◌, refl, sym, ap, ◌∙◌, subst, All, Ok, String, inl, inr}
use Rattle.std.specs.Prelude.{Option, None, ◌⊎◌}
use Rattle.std.specs.Global.{Global}
use Rattle.std.proofs.lemmas.List.Elements.{All-append, All-cons, All-nil}
use Rattle.syntect_cat.specs.syntect_theme.declared.theme.Theme.{Theme}
use Rattle.syntect_cat.specs.syntect_grammar.Folders.{AddsSyntaxes, no_more, other, grammar, metadata, entry_added, passed_over}
use Rattle.syntect_cat.specs.syntect_grammar.Folders.{no_definitions}
use Rattle.syntect_cat.specs.syntect_grammar.Link.{definitions_in, paths_in, syntaxes_in, set_paths, linked}
use Rattle.syntect_cat.specs.syntect_grammar.Metadata.{entries_in, kept_sets, metadata_in, IsMergedOf}
use Rattle.syntect_cat.specs.syntect_grammar_loader.Loading.{loaded}
use Rattle.syntect_cat.specs.syntect_grammar.PlainText.{plain_text, AddsPlainText}
use Rattle.syntect_cat.specs.syntect_grammar_loader.declared.definition.SyntaxDefinition.{SyntaxDefinition}
use Rattle.syntect_cat.specs.syntect_grammar.declared.syntax_set.SyntaxSet.{SyntaxSet}
use Rattle.syntect_cat.specs.syntect_grammar.declared.syntax_set.SyntaxSetBuilder.{SyntaxSetBuilder}
use Rattle.syntect_cat.specs.syntect_easy.Built.{IsPlain, IsBuilt}
use Rattle.syntect_cat.specs.syntect_theme_files.ThemeFiles.{IsThemeOf}
use Rattle.syntect_cat.specs.syntect_grammar.declared.error.Error.{Error}
use Rattle.syntect_cat.specs.syntect_grammar.declared.error.Error.TheVariants as error
use Rattle.syntect_cat.specs.syntect_base.Limiting.{usual}
use Rattle.syntect_cat.specs.syntect_base.Trees.{Answer, has_bytes}
use Rattle.syntect_cat.specs.syntect_base.declared.limits.Limits.{Limits}
use Rattle.syntect_cat.specs.syntect_base.declared.limits.LimitReached.{LimitReached}
use Rattle.syntect_cat.specs.syntect_grammar_limits.FoldersWithin.{AddsFolderWithin, RefusesFolderWithin}
use Rattle.syntect_cat.specs.syntect_grammar_limits.declared.folder_error.FolderWithinError.TheVariants as folder_error
use Rattle.syntect_cat.proofs.syntect_grammar_limits_proofs.FolderLaws.{added_within}
use Rattle.syntect_cat.specs.Faults.{fault_of, fault_line, plain_line, without_limit}
use Rattle.syntect_cat.specs.declared.note.Note.{Note}
use Rattle.syntect_cat.specs.Shown.{IsSetOf, PassesLimit, HasReason, HasReasonFor, IsShown, IsAskedFor}
use Rattle.syntect_cat.specs.Texts.{IsFaultOfFile, ShowsFile}
use Rattle.syntect_cat.specs.Words.{words_for, words_of}
use Rattle.syntect_cat.specs.declared.fault.Fault.{Fault}
use Rattle.syntect_cat.specs.declared.fault.Fault.TheVariants as fault
use Rattle.syntect_cat.specs.declared.job.Format.{Format}
use Rattle.syntect_cat.specs.declared.job.Job.{Job}

-- what is loaded is plain
abbrev pub LoadsPlain : Type 0
LoadsPlain = (text : List ℕ) (lines_include_newline : Bool) (fallback : Option (List ℕ)) (repository : List (List ℕ)) (definition : SyntaxDefinition) (left : List (List ℕ))
    → loaded text lines_include_newline fallback repository ≡ Ok (definition, left) → IsPlain definition

one_plain : (d : SyntaxDefinition) → IsPlain d → All IsPlain (d ∷ [])
one_plain d p = All-cons IsPlain d [] p (All-nil IsPlain)

plain_first : LoadsPlain → (old new : SyntaxSetBuilder) (before after : List (List ℕ)) → AddsPlainText old new before after → definitions_in old ≡ [] → All IsPlain (definitions_in new)
plain_first law old new before after a e =
    subst (All IsPlain) (sym (a.definitions ∙ ap (λ ds. ds ++ a.definition ∷ []) e)) (one_plain a.definition (law _ _ _ _ _ _ a.loads))

plain_more : LoadsPlain → (Told : Answer → Type 0) (newlines : Bool) (files old new : List (List ℕ)) (builder all : SyntaxSetBuilder) → All IsPlain (definitions_in builder) → AddsSyntaxes Told newlines files old builder new all → All IsPlain (definitions_in all)
plain_more law Told newlines _ _ _ _ _ p no_more = p
plain_more law Told newlines _ _ _ _ _ p (other e f a) = plain_more law Told newlines _ _ _ _ _ p a
plain_more law Told newlines _ _ _ _ _ p (metadata e (entry_added t i) a) = plain_more law Told newlines _ _ _ _ _ p a
plain_more law Told newlines _ _ _ _ _ p (metadata e (passed_over f n) a) = plain_more law Told newlines _ _ _ _ _ p a
plain_more law Told newlines _ _ _ builder _ p (grammar {d = d} e t l a) =
    plain_more law Told newlines _ _ _ _ _ (All-append IsPlain (definitions_in builder) (d ∷ []) p (one_plain d (law _ _ _ _ _ _ l.loads))) a

pub set_built : LoadsPlain → (Told : Answer → Type 0) (folder : List ℕ) (repository : List (List ℕ)) (set : SyntaxSet) → IsSetOf Told folder repository set → (definitions : List SyntaxDefinition) × IsBuilt set definitions
set_built law Told folder repository set s =
    let a = added_within Told usual true folder s.left s.plain s.found s.all s.adds_folder in (
      definitions_in s.all,
      record {
        links = s.syntaxes;
        plain =
            plain_more law Told true a.files s.left s.found s.plain s.all
            (plain_first law no_definitions s.plain [] s.left s.adds_plain refl) a.adds;
      },
    )

plain_added : (start plain : SyntaxSetBuilder) (before left : List (List ℕ)) → before ≡ [] → definitions_in start ≡ [] → paths_in start ≡ [] → AddsPlainText start plain before left → AddsPlainText no_definitions plain [] left
plain_added start plain before left e d p a = record {
  definition = a.definition;
  loads = ap (λ repo. loaded plain_text false None repo) (sym e) ∙ a.loads;
  definitions = a.definitions ∙ ap (λ ds. ds ++ a.definition ∷ []) d;
  paths = a.paths ∙ p;
}

pub set_of : (Told : Answer → Type 0) (folder : List ℕ) (limits : Limits) (start plain all : SyntaxSetBuilder) (before left found after : List (List ℕ)) (set : SyntaxSet) → limits ≡ usual → before ≡ [] → definitions_in start ≡ [] → paths_in start ≡ []
    → entries_in start ≡ [] → kept_sets start ≡ [] → entries_in plain ≡ entries_in start → kept_sets plain ≡ kept_sets start
    → AddsPlainText start plain before left → AddsFolderWithin Told limits true folder left plain found all → syntaxes_in set ≡ linked (definitions_in all) → set_paths set ≡ paths_in all
    → IsMergedOf found all after (metadata_in set) → IsSetOf Told folder after set
set_of Told folder limits start plain all before left found after set u e d p es ks same_es same_ks a b f g m = record {
  plain = plain;
  all = all;
  left = left;
  found = found;
  adds_plain = plain_added start plain before left e d p a;
  no_entries = same_es ∙ es;
  nothing_kept = same_ks ∙ ks;
  adds_folder = subst (λ (l : Limits). AddsFolderWithin Told l true folder left plain found all) u b;
  syntaxes = f;
  paths = g;
  metadata = m;
}

-- ---- reasons of faults ----

pub passes_limit : (Told : Answer → Type 0) (folder : List ℕ) (limits : Limits) (start plain all : SyntaxSetBuilder) (before left found : List (List ℕ)) (r : LimitReached) (path : String Global) → limits ≡ usual → before ≡ [] → definitions_in start ≡ []
    → paths_in start ≡ [] → AddsPlainText start plain before left → RefusesFolderWithin Told limits true folder left plain (folder_error.LimitReached r path) found all → PassesLimit Told folder r path
passes_limit Told folder limits start plain all before left found r path u e d p a f =
    record {
      plain = plain;
      all = all;
      left = left;
      found = found;
      adds_plain = plain_added start plain before left e d p a;
      refuses = subst (λ (l : Limits). RefusesFolderWithin Told l true folder left plain (folder_error.LimitReached r path) found all) u f;
    }

-- a fault of the theme needs no reason
pub no_theme : (Told : Answer → Type 0) (folder file : List ℕ) (f : Fault) → f ≡ fault.Theme → HasReason Told folder file f
no_theme Told folder file f t = subst (HasReason Told folder file) (sym t) tt

-- why a file isn't shown
reason_of : (Told : Answer → Type 0) (folder file : List ℕ) (e : Error) → IsFaultOfFile Told file e → HasReason Told folder file (fault_of e)
reason_of Told folder file (error.Io x) h = (x, h)
reason_of Told folder file (error.LoadingError x) h = tt
reason_of Told folder file (error.ParsingError x) h = tt
reason_of Told folder file (error.ScopeError x) h = tt
reason_of Told folder file (error.Fmt x) h = tt
reason_of Told folder file error.NoSyntax h = tt
reason_of Told folder file (error.ParseSyntax e) h = tt
reason_of Told folder file (error.ParseScope e) h = tt
reason_of Told folder file (error.Pattern e) h = tt
reason_of Told folder file error.Memory h = tt

pub not_shown : (Told : Answer → Type 0) (folder file path : List ℕ) (e : Error) (f : Fault) → f ≡ fault_of e → path ≡ file → IsFaultOfFile Told path e → HasReason Told folder file f
not_shown Told folder file path e f same p h =
    subst (HasReason Told folder file) (sym same) (reason_of Told folder file e (subst (λ (x : List ℕ). IsFaultOfFile Told x e) p h))

pub plain_told : (f : Fault) → plain_line f ≡ fault_line (without_limit f)
plain_told fault.Syntaxes = refl
plain_told (fault.Limit s p) = refl
plain_told fault.Theme = refl
plain_told fault.File = refl
plain_told fault.Highlighting = refl
plain_told fault.Writing = refl

reason_without : (Told : Answer → Type 0) (folder file : List ℕ) (f : Fault) → HasReason Told folder file f → HasReason Told folder file (without_limit f)
reason_without Told folder file fault.Syntaxes h = tt
reason_without Told folder file (fault.Limit s p) h = tt
reason_without Told folder file fault.Theme h = tt
reason_without Told folder file fault.File h = h
reason_without Told folder file fault.Highlighting h = tt
reason_without Told folder file fault.Writing h = tt

-- what is told of a fault is as true, and tells of writing where that is the fault
pub told_of : (Told : Answer → Type 0) (folder file : List ℕ) (f told : Fault) → (told ≡ f) ⊎ (told ≡ without_limit f) → HasReason Told folder file f → HasReason Told folder file told
told_of Told folder file f told (inl e) h = subst (HasReason Told folder file) (sym e) h
told_of Told folder file f told (inr e) h = subst (HasReason Told folder file) (sym e) (reason_without Told folder file f h)

without_writing : (f : Fault) → without_limit f ≡ fault.Writing → f ≡ fault.Writing
without_writing fault.Syntaxes e = absurd cc
without_writing (fault.Limit s p) e = absurd cc
without_writing fault.Theme e = absurd cc
without_writing fault.File e = absurd cc
without_writing fault.Highlighting e = absurd cc
without_writing fault.Writing e = refl

writing_without : (f : Fault) → f ≡ fault.Writing → without_limit f ≡ fault.Writing
writing_without f e = ap without_limit e

pub told_writing : (f told : Fault) → (told ≡ f) ⊎ (told ≡ without_limit f) → told ≡ fault.Writing → f ≡ fault.Writing
told_writing f told (inl e) w = sym e ∙ w
told_writing f told (inr e) w = without_writing f (sym e ∙ w)

pub writing_told : (f told : Fault) → (told ≡ f) ⊎ (told ≡ without_limit f) → f ≡ fault.Writing → told ≡ fault.Writing
writing_told f told (inl e) w = e ∙ w
writing_told f told (inr e) w = e ∙ writing_without f w

-- the words name the folder and the file of the job
pub reason_for : (Told : Answer → Type 0) (words : List (List ℕ)) (job : Job) (f : Fault) → words ≡ words_of job → HasReason Told job.folder.now job.file.now f → HasReasonFor Told words f
reason_for Told words job f same h folder theme file format e =
    let folders : job.folder.now ≡ folder = same_folder job.folder.now folder job.theme.now theme job.file.now file job.format format (sym same ∙ e) in
    let files : job.file.now ≡ file = same_file job.folder.now folder job.theme.now theme job.file.now file job.format format (sym same ∙ e) in
    subst (λ (y : List ℕ). HasReason Told folder y f) files (subst (λ (x : List ℕ). HasReason Told x job.file.now f) folders h)
  where
    same_folder : (a b c d m n : List ℕ) (p q : Format) → words_for a c p m ≡ words_for b d q n → a ≡ b
    same_folder a b c d m n p q e = cc

    same_file : (a b c d m n : List ℕ) (p q : Format) → words_for a c p m ≡ words_for b d q n → m ≡ n
    same_file a b c d m n p q e = cc

-- ---- the text of a job ----

pub file_shown : LoadsPlain → (Told : Answer → Type 0) (folder path : List ℕ) (format : Format) (file text : List ℕ) (told : Option Note) (repository after : List (List ℕ)) (set : SyntaxSet) (theme : Theme) → IsSetOf Told folder repository set
    → (bytes : List ℕ) × Told (has_bytes path bytes) × IsThemeOf repository bytes after theme → ((definitions : List SyntaxDefinition) → IsBuilt set definitions → ShowsFile Told format set theme file text told)
    → IsShown Told folder path format file text told
file_shown law Told folder path format file text told repository after set theme s t h =
    let b = set_built law Told folder repository set s in
    record { repository = repository; after = after; set = set; bytes = t.0; theme = theme; set_is = s; theme_read = t.1; theme_is = t.2; shows = h b.0 b.1 }

pub asked_for : (Told : Answer → Type 0) (words : List (List ℕ)) (job : Job) (text : List ℕ) (told : Option Note) → words ≡ words_of job → IsShown Told job.folder.now job.theme.now job.format job.file.now text told → IsAskedFor Told words text told
asked_for Told words job text told e s = (job.folder.now, job.theme.now, job.file.now, job.format, e, s)

-- highlighting is not writing
pub never_writing : (e : Error) → fault_of e ≡ fault.Writing → ⊥
never_writing (error.Io x) h = cc
never_writing (error.LoadingError x) h = cc
never_writing (error.ParsingError x) h = cc
never_writing (error.ScopeError x) h = cc
never_writing (error.Fmt x) h = cc
never_writing error.NoSyntax h = cc
never_writing (error.ParseSyntax e) h = cc
never_writing (error.ParseScope e) h = cc
never_writing (error.Pattern e) h = cc
never_writing error.Memory h = cc
