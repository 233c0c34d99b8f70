-- The text of lines with their numbers while it is written.
use Rattle.std.proofs.Common.{◌≡◌, ℕ, ◌+◌, true, false, List, [], ◌∷◌, ◌++◌, length, refl, sym, ap, ◌∙◌, append-nil, append_assoc, IsUtf8, Bor, arith}
use Rattle.std.specs.Prelude.{Option, Some, Result, Ok, Err, IfOk}
use Rattle.std.specs.Global.{Vec}
use Rattle.std.proofs.lemmas.List.{length_push}
use Rattle.syntect_documents.specs.syntect_base.declared.limits.Limits.{Limits}
use Rattle.syntect_documents.specs.syntect_assets.syntect_theme.declared.style.Style.{Style}
use Rattle.syntect_documents.specs.syntect_assets.syntect_theme.declared.theme.Theme.{Theme}
use Rattle.syntect_documents.specs.syntect_grammar_contexts.declared.syntax_reference.SyntaxReference.{SyntaxReference}
use Rattle.syntect_documents.specs.syntect_grammar.declared.syntax_set.SyntaxSet.{SyntaxSet}
use Rattle.syntect_documents.specs.syntect_grammar_loader.declared.definition.SyntaxDefinition.{SyntaxDefinition}
use Rattle.syntect_documents.specs.syntect_parsing.declared.within.LineLimit.{LineLimit}
use Rattle.syntect_documents.specs.syntect_writers.Spans.{opening, closing, background_of}
use Rattle.syntect_documents.specs.syntect_writers.declared.html.IncludeBackground.{IncludeBackground}
use Rattle.syntect_documents.specs.syntect_writers.declared.html.IncludeBackground.TheVariants.{IfDifferent}
use Rattle.syntect_documents.specs.syntect_easy.Pages.{past_of}
use Rattle.syntect_documents.specs.syntect_easy.PlainLines.{AreLinesSoFar, ContinuesWithin, LinesEnd, LinesGoOn, Shown, read, plain, first_plain, limit_in, pieces_in, rows_in}
use Rattle.syntect_documents.specs.syntect_easy.Rows.{GivesNext, IsTextOf}
use Rattle.syntect_documents.specs.syntect_easy.declared.easy.HighlightLines.{HighlightLines}
use Rattle.syntect_documents.specs.syntect_assets.Texts.{first_of}
use Rattle.syntect_documents.specs.syntect_assets.Assets.{language_named}
use Rattle.syntect_documents.specs.syntect_assets.declared.assets.Assets.{Assets}
use Rattle.syntect_documents.specs.syntect_assets.declared.assets.Shown.{Shown as ShownText}
use Rattle.syntect_documents.specs.syntect_assets.declared.error.AssetsError.{AssetsError}
use Rattle.syntect_documents.specs.Numbered.{IsNumbered, NumbersIn, NumbersText, body_of, numbered_line, numbered_lines}
use Rattle.syntect_documents.specs.declared.lines.LineForm.{LineForm}

-- the lines of what was read are in the text, and the first plain one of them is known
pub record IsSoFar (limits : Limits) (form : LineForm) (set : SyntaxSet) (theme : Theme) (syntax : SyntaxReference) (had left : Option (List ℕ)) (last text : List ℕ) (number : ℕ) (first : Option (ℕ × LineLimit)) (h : HighlightLines) : Type 0 where
  pub lines : List Shown
  pub so_far : AreLinesSoFar limits set theme syntax had left last lines h
  pub written : text ≡ opening theme ++ body_of form theme lines
  pub count : number ≡ form.first + length lines
  pub first_is : first ≡ first_plain 0 lines

lines_last : (form : LineForm) (spans : IncludeBackground) (number : ℕ) (lines : List Shown) (next : Shown)
    → numbered_lines form spans number (lines ++ next ∷ []) ≡ numbered_lines form spans number lines ++ numbered_line form spans (number + length lines) (pieces_in next)
lines_last form spans number [] next =
    let e : number ≡ number + 0 = omega arith in append-nil (numbered_line form spans number (pieces_in next)) ∙ ap (λ (n : ℕ). numbered_line form spans n (pieces_in next)) e
lines_last form spans number (line ∷ lines) next =
    let one : List ℕ = numbered_line form spans number (pieces_in line) in
    let e : (number + 1) + length lines ≡ number + length (line ∷ lines) = omega arith in
    ap (λ (xs : List ℕ). one ++ xs) (lines_last form spans (number + 1) lines next)
    ∙ sym (append_assoc one (numbered_lines form spans (number + 1) lines) (numbered_line form spans ((number + 1) + length lines) (pieces_in next)))
    ∙ ap (λ (n : ℕ). (one ++ numbered_lines form spans (number + 1) lines) ++ numbered_line form spans n (pieces_in next)) e

first_last : (before : ℕ) (lines : List Shown) (next : Shown) → first_plain before (lines ++ next ∷ []) ≡ first_of (first_plain before lines) (before + length lines) (limit_in next)
first_last before [] (read row) = refl
first_last before [] (plain line pieces limit) = let e : before ≡ before + 0 = omega arith in ap (λ (n : ℕ). Some (n + 1, limit)) e
first_last before (read row ∷ lines) next =
    let e : (before + 1) + length lines ≡ before + length (read row ∷ lines) = omega arith in
    first_last (before + 1) lines next ∙ ap (λ (n : ℕ). first_of (first_plain (before + 1) lines) n (limit_in next)) e
first_last before (plain line pieces limit ∷ lines) next = refl

written_last : (form : LineForm) (theme : Theme) (lines : List Shown) (next : Shown) (number : ℕ) (text more : List ℕ) → text ≡ opening theme ++ body_of form theme lines → number ≡ form.first + length lines
    → more ≡ text ++ numbered_line form (IfDifferent (background_of theme)) number (pieces_in next) → more ≡ opening theme ++ body_of form theme (lines ++ next ∷ [])
written_last form theme lines next number text more e n f =
    let spans : IncludeBackground = IfDifferent (background_of theme) in
    f
    ∙ ap (λ (xs : List ℕ). xs ++ numbered_line form spans number (pieces_in next)) e
    ∙ append_assoc (opening theme) (body_of form theme lines) (numbered_line form spans number (pieces_in next))
    ∙ ap (λ (k : ℕ). opening theme ++ (body_of form theme lines ++ numbered_line form spans k (pieces_in next))) n
    ∙ ap (λ (xs : List ℕ). opening theme ++ xs) (sym (lines_last form spans form.first lines next))

pub line_more : LinesGoOn → (limits : Limits) (form : LineForm) (set : SyntaxSet) (definitions : List SyntaxDefinition) (theme : Theme) (syntax : SyntaxReference) (had left after : Option (List ℕ)) (last text more bytes : List ℕ) (number before : ℕ)
    (first now : Option (ℕ × LineLimit)) (line : Bor (List ℕ)) (h new : HighlightLines) (pieces : Vec (Style × Bor (List ℕ))) (limit : Option LineLimit)
    (s : IsSoFar limits form set theme syntax had left last text number first h)
    → ContinuesWithin limits (past_of definitions theme syntax (rows_in s.lines)) set line h new pieces limit
    → GivesNext left last after bytes true → line.now ≡ bytes → IsUtf8 bytes
    → more ≡ text ++ numbered_line form (IfDifferent (background_of theme)) number pieces.items → number ≡ form.first + before → now ≡ first_of first before limit
    → IsSoFar limits form set theme syntax had after bytes more (number + 1) now new
line_more law limits form set definitions theme syntax had left after last text more bytes number before first now line h new pieces limit s l g e u f b k =
    let next = law limits set definitions theme syntax had left after last bytes s.lines line h new pieces limit s.so_far l g e u in
    let counted : before ≡ 0 + length s.lines = omega (arith, s.count, b) in
    record {
      lines = s.lines ++ next.0 ∷ [];
      so_far = next.3;
      written = written_last form theme s.lines next.0 number text more s.written s.count (f ∙ ap (λ (ps : List (Style × Bor (List ℕ))). text ++ numbered_line form (IfDifferent (background_of theme)) number ps) (sym next.1));
      count = let q : length (s.lines ++ next.0 ∷ []) ≡ length s.lines + 1 = length_push s.lines next.0 in omega (arith, s.count, q);
      first_is =
          k
          ∙ ap (λ (o : Option (ℕ × LineLimit)). first_of o before limit) s.first_is
          ∙ ap (λ (n : ℕ). first_of (first_plain 0 s.lines) n limit) counted
          ∙ ap (λ (o : Option LineLimit). first_of (first_plain 0 s.lines) (0 + length s.lines) o) (sym next.2)
          ∙ sym (first_last 0 s.lines next.0);
    }

pub text_whole : LinesEnd → (limits : Limits) (form : LineForm) (set : SyntaxSet) (theme : Theme) (syntax : SyntaxReference) (had left after : Option (List ℕ)) (last text whole bytes : List ℕ) (number : ℕ) (first : Option (ℕ × LineLimit)) (h : HighlightLines)
    (s : IsSoFar limits form set theme syntax had left last text number first h) → GivesNext left last after bytes false → whole ≡ text ++ closing
    → (all : List ℕ) × IsTextOf had all × IsUtf8 all × IsNumbered limits form set theme syntax all whole first
text_whole law limits form set theme syntax had left after last text whole bytes number first h s g f =
    let t = law limits set theme syntax had left after last bytes s.lines h s.so_far g in (
      t.0,
      t.1,
      t.2,
      record {
        lines = s.lines;
        are_lines = t.3;
        written = f ∙ ap (λ (xs : List ℕ). xs ++ closing) s.written ∙ append_assoc (opening theme) (body_of form theme s.lines) closing;
        first_is = s.first_is;
      },
    )

-- what is shown in a syntax is shown in the language of its name
pub numbers_named : (result : Result ShownText AssetsError) (assets : Assets) (text name : List ℕ) (theme : Theme) (form : LineForm) (syntax : SyntaxReference) → language_named assets name ≡ Some syntax
    → IfOk result (NumbersIn assets text syntax theme form) → IfOk result (NumbersText assets text name theme form)
numbers_named (Ok shown) assets text name theme form syntax named h = record { syntax = syntax; named = named; shows = h }
numbers_named (Err e) assets text name theme form syntax named h = h
