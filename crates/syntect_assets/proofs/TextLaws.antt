-- The text of lines while it is written.
use Rattle.std.proofs.Common.{◌≡◌, ℕ, ◌+◌, Bool, true, false, List, [], ◌∷◌, ◌++◌, length, refl, sym, ap, ◌∙◌, append-nil, append_assoc, IsUtf8, Bor, arith}
use Rattle.std.specs.Prelude.{Option, Some}
use Rattle.std.specs.Global.{Vec}
use Rattle.std.proofs.lemmas.Grind.{flat_map-append}
use Rattle.std.proofs.lemmas.List.{length_push}
use Rattle.syntect_assets.specs.syntect_base.declared.limits.Limits.{Limits}
use Rattle.syntect_assets.specs.syntect_theme.declared.style.Style.{Style}
use Rattle.syntect_assets.specs.syntect_theme.declared.theme.Theme.{Theme}
use Rattle.syntect_assets.specs.syntect_grammar_contexts.declared.syntax_reference.SyntaxReference.{SyntaxReference}
use Rattle.syntect_assets.specs.syntect_grammar.declared.syntax_set.SyntaxSet.{SyntaxSet}
use Rattle.syntect_assets.specs.syntect_grammar_loader.declared.definition.SyntaxDefinition.{SyntaxDefinition}
use Rattle.syntect_assets.specs.syntect_parsing.declared.within.LineLimit.{LineLimit}
use Rattle.syntect_easy.specs.Pages.{past_of}
use Rattle.syntect_easy.specs.PlainLines.{AreLinesSoFar, ContinuesWithin, LinesEnd, LinesGoOn, Shown, read, plain, first_plain, limit_in, pieces_in, rows_in}
use Rattle.syntect_easy.specs.Rows.{GivesNext, IsTextOf}
use Rattle.syntect_easy.specs.declared.easy.HighlightLines.{HighlightLines}
use Rattle.syntect_assets.specs.Texts.{IsWritten, end_of, first_of, front_of, ground_of, line_of, lines_text}
use Rattle.syntect_assets.specs.declared.format.Format.{Format}
use Rattle.syntect_assets.specs.declared.writer.Ground.{Ground}

-- what a reader gives, by its answer
pub gives_more : (had left : Option (List ℕ)) (last line : List ℕ) (b : Bool) → b ≡ true → GivesNext had last left line b → GivesNext had last left line true
gives_more had left last line true e g = g
gives_more had left last line false e g = absurd (let q : false ≡ true = e in cc)

pub gives_nothing : (had left : Option (List ℕ)) (last line : List ℕ) (b : Bool) → b ≡ false → GivesNext had last left line b → GivesNext had last left line false
gives_nothing had left last line false e g = g
gives_nothing had left last line true e g = absurd (let q : true ≡ false = e in cc)

-- the lines of what was read are in the text, and the first plain one of them is known
pub record IsSoFar (limits : Limits) (format : Format) (set : SyntaxSet) (theme : Theme) (syntax : SyntaxReference) (had left : Option (List ℕ)) (last text : List ℕ) (before : ℕ) (first : Option (ℕ × LineLimit)) (h : HighlightLines) : Type 0 where
  pub lines : List Shown
  pub so_far : AreLinesSoFar limits set theme syntax had left last lines h
  pub written : text ≡ front_of format theme ++ lines_text (ground_of format theme) lines
  pub count : before ≡ length lines
  pub first_is : first ≡ first_plain 0 lines

written_last : (form : Ground) (front : List ℕ) (lines : List Shown) (next : Shown) (text more pieces : List ℕ) → text ≡ front ++ lines_text form lines → line_of form (pieces_in next) ≡ pieces → more ≡ text ++ pieces
    → more ≡ front ++ lines_text form (lines ++ next ∷ [])
written_last form front lines next text more pieces e p f =
    f ∙ ap (λ (xs : List ℕ). xs ++ pieces) e
    ∙ append_assoc front (lines_text form lines) pieces
    ∙ ap (λ (xs : List ℕ). front ++ (lines_text form lines ++ xs)) (sym (append-nil (line_of form (pieces_in next)) ∙ p))
    ∙ ap (λ (xs : List ℕ). front ++ xs) (sym (flat_map-append (λ (s : Shown). line_of form (pieces_in s)) lines (next ∷ [])))

first_last : (before : ℕ) (lines : List Shown) (next : Shown) → first_plain before (lines ++ next ∷ []) ≡ first_of (first_plain before lines) (before + length lines) (limit_in next)
first_last before [] (read row) = refl
first_last before [] (plain line pieces limit) = let e : before ≡ before + 0 = omega arith in ap (λ (n : ℕ). Some (n + 1, limit)) e
first_last before (read row ∷ lines) next =
    let e : (before + 1) + length lines ≡ before + length (read row ∷ lines) = omega arith in
    first_last (before + 1) lines next ∙ ap (λ (n : ℕ). first_of (first_plain (before + 1) lines) n (limit_in next)) e
first_last before (plain line pieces limit ∷ lines) next = refl

pub line_more : LinesGoOn → (limits : Limits) (format : Format) (set : SyntaxSet) (definitions : List SyntaxDefinition) (theme : Theme) (syntax : SyntaxReference) (had left after : Option (List ℕ)) (last text more bytes : List ℕ) (before : ℕ)
    (first now : Option (ℕ × LineLimit)) (line : Bor (List ℕ)) (h new : HighlightLines) (pieces : Vec (Style × Bor (List ℕ))) (limit : Option LineLimit)
    (s : IsSoFar limits format set theme syntax had left last text before first h)
    → ContinuesWithin limits (past_of definitions theme syntax (rows_in s.lines)) set line h new pieces limit
    → GivesNext left last after bytes true → line.now ≡ bytes → IsUtf8 bytes
    → more ≡ text ++ line_of (ground_of format theme) pieces.items → now ≡ first_of first before limit
    → IsSoFar limits format set theme syntax had after bytes more (before + 1) now new
line_more law limits format set definitions theme syntax had left after last text more bytes before first now line h new pieces limit s l g e u f k =
    let next = law limits set definitions theme syntax had left after last bytes s.lines line h new pieces limit s.so_far l g e u in
    let counted : before ≡ 0 + length s.lines = omega (arith, s.count) in
    record {
      lines = s.lines ++ next.0 ∷ [];
      so_far = next.3;
      written = written_last (ground_of format theme) (front_of format theme) s.lines next.0 text more (line_of (ground_of format theme) pieces.items) s.written (ap (line_of (ground_of format theme)) next.1) f;
      count = let q : length (s.lines ++ next.0 ∷ []) ≡ length s.lines + 1 = length_push s.lines next.0 in omega (arith, s.count, q);
      first_is =
          k
          ∙ ap (λ (o : Option (ℕ × LineLimit)). first_of o before limit) s.first_is
          ∙ ap (λ (n : ℕ). first_of (first_plain 0 s.lines) n limit) counted
          ∙ ap (λ (o : Option LineLimit). first_of (first_plain 0 s.lines) (0 + length s.lines) o) (sym next.2)
          ∙ sym (first_last 0 s.lines next.0);
    }

pub text_whole : LinesEnd → (limits : Limits) (format : Format) (set : SyntaxSet) (theme : Theme) (syntax : SyntaxReference) (had left after : Option (List ℕ)) (last text whole bytes : List ℕ) (before : ℕ) (first : Option (ℕ × LineLimit)) (h : HighlightLines)
    (s : IsSoFar limits format set theme syntax had left last text before first h) → GivesNext left last after bytes false → whole ≡ text ++ end_of (ground_of format theme)
    → (all : List ℕ) × IsTextOf had all × IsUtf8 all × IsWritten limits format set theme syntax all whole first
text_whole law limits format set theme syntax had left after last text whole bytes before first h s g f =
    let t = law limits set theme syntax had left after last bytes s.lines h s.so_far g in (
      t.0,
      t.1,
      t.2,
      record {
        lines = s.lines;
        are_lines = t.3;
        written = f ∙ ap (λ (xs : List ℕ). xs ++ end_of (ground_of format theme)) s.written ∙ append_assoc (front_of format theme) (lines_text (ground_of format theme) s.lines) (end_of (ground_of format theme));
        first_is = s.first_is;
      },
    )
