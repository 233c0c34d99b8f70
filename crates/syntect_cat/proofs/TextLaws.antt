-- The text that shows a file, and what is reported of it.
use Rattle.std.proofs.Common.{◌≡◌, ℕ, List, [], refl, subst, IsUtf8, inl, inr}
use Rattle.std.specs.Io.KnownBytes.{Keeps}
use Rattle.std.specs.Prelude.{Option, Some, None}
use Rattle.syntect_cat.specs.syntect_base.Limiting.{usual}
use Rattle.syntect_cat.specs.syntect_base.Trees.{Answer, not_read_on, opened}
use Rattle.syntect_cat.specs.syntect_base.declared.limits.Limits.{Limits}
use Rattle.syntect_cat.specs.syntect_theme.declared.theme.Theme.{Theme}
use Rattle.syntect_cat.specs.syntect_grammar_contexts.declared.syntax_reference.SyntaxReference.{SyntaxReference}
use Rattle.syntect_cat.specs.syntect_easy.Files.{FaultsAre, IsFileFault, IsLineFault}
use Rattle.syntect_cat.specs.syntect_grammar.declared.error.Error.{Error}
use Rattle.syntect_cat.specs.syntect_grammar.declared.error.Error.TheVariants as error
use Rattle.syntect_cat.specs.syntect_grammar.declared.syntax_set.SyntaxSet.{SyntaxSet}
use Rattle.syntect_cat.specs.syntect_parsing.declared.within.LineLimit.{LineLimit}
use Rattle.syntect_cat.specs.syntect_easy.Files.{HasNoLinesWithin, IsToldWithin}
use Rattle.syntect_cat.specs.syntect_easy.Rows.{IsTextOf}
use Rattle.syntect_cat.proofs.syntect_easy_proofs.FileLaws.{fault_within, line_fault_kept, text_kept}
use Rattle.syntect_cat.specs.syntect_grammar_limits.declared.first_line_error.FirstLineLimit.{FirstLineLimit}
use Rattle.syntect_cat.specs.Notes.{Tells, note_of}
use Rattle.syntect_cat.specs.declared.note.Note.{Note}
use Rattle.syntect_cat.specs.syntect_assets.Texts.{IsWritten}
use Rattle.syntect_cat.specs.Texts.{IsFaultOfFile, ShowsFile, form_of}
use Rattle.syntect_cat.specs.syntect_assets.declared.format.Format.{Format as Form}
use Rattle.syntect_cat.specs.declared.job.Format.{Format}

-- ---- files ----

module _ (Told : Answer → Type 0) (limits : Limits) (set : SyntaxSet) (path : List ℕ) where
  pub file_text : (form : Form) (format : Format) (theme : Theme) (all : List ℕ) (syntax : SyntaxReference) (limit : Option FirstLineLimit) (first : Option (ℕ × LineLimit)) (note : Option Note) (left seen : Option (List ℕ)) → Told (opened path left) → Keeps left seen
      → limits ≡ usual → form ≡ form_of format → IsToldWithin limits set path left syntax limit → note ≡ note_of limit first → (text : List ℕ) × IsTextOf seen text × IsUtf8 text × IsWritten limits form set theme syntax text all first
      → ShowsFile Told format set theme path all note
  file_text form format theme all syntax limit first note left seen told kept u f s n h = record {
    left = left;
    told = told;
    syntax = syntax;
    limit = limit;
    syntax_is = subst (λ (l : Limits). IsToldWithin l set path left syntax limit) u s;
    first = first;
    note_is = n;
    text = h.0;
    whole = text_kept left seen h.0 kept h.1;
    utf8 = h.2;
    written = subst (λ (l : Limits). IsWritten l (form_of format) set theme syntax h.0 all first) u (subst (λ (f : Form). IsWritten limits f set theme syntax h.0 all first) f h.3);
  }

  -- a file that wasn't opened, or not read then
  pub not_opened : (e : Error) → HasNoLinesWithin (IsFileFault Told path) limits set path e → IsFaultOfFile Told path e
  not_opened (error.Io x) h = inl (fault_within (IsFileFault Told path) limits set path x (error.Io x) refl h)
  not_opened (error.LoadingError x) h = tt
  not_opened (error.ParsingError x) h = tt
  not_opened (error.ScopeError x) h = tt
  not_opened (error.Fmt x) h = tt
  not_opened error.NoSyntax h = tt
  not_opened (error.ParseSyntax x) h = tt
  not_opened (error.ParseScope x) h = tt
  not_opened (error.Pattern x) h = tt
  not_opened error.Memory h = tt

  pub not_read_to_end : (left seen : Option (List ℕ)) → Keeps left seen → Told (opened path left) → (e : Error) → FaultsAre (IsLineFault (λ e. Told (not_read_on path e)) seen) e → IsFaultOfFile Told path e
  not_read_to_end left seen k told (error.Io x) f = inr (left, told, line_fault_kept (λ e. Told (not_read_on path e)) left seen k x f)
  not_read_to_end left seen k told (error.LoadingError x) f = tt
  not_read_to_end left seen k told (error.ParsingError x) f = tt
  not_read_to_end left seen k told (error.ScopeError x) f = tt
  not_read_to_end left seen k told (error.Fmt x) f = tt
  not_read_to_end left seen k told error.NoSyntax f = tt
  not_read_to_end left seen k told (error.ParseSyntax x) f = tt
  not_read_to_end left seen k told (error.ParseScope x) f = tt
  not_read_to_end left seen k told (error.Pattern x) f = tt
  not_read_to_end left seen k told error.Memory f = tt

-- ---- what is reported ----

pub never_some : (n : Note) → None ≡ Some n → ⊥
never_some n e = cc

pub never_none : (n : Note) → Some n ≡ None → ⊥
never_none n e = cc

-- what was reported of limits was reported of the same ones
pub told_of_limits : (old new : Option (List ℕ)) (n other : Note) → Some n ≡ Some other → Tells old new n → Tells old new other
told_of_limits old new n other e told =
    let same : n ≡ other = cc in
    subst (Tells old new) same told
