-- A page while it is written.
use Rattle.std.proofs.Common.{◌≡◌, ℕ, List, [], ◌∷◌, ◌++◌, map, refl, sym, ap, subst, ◌∙◌, append_assoc, append-nil, Ok, Err, Bor, inl, inr}
use Rattle.std.specs.Global.{Vec}
use Rattle.std.proofs.lemmas.Grind.{flat_map-append}
use Rattle.syntect_style.specs.Pieces.{Joins, IsStyled}
use Rattle.syntect_easy.specs.syntect_theme.declared.style.Style.{Style}
use Rattle.syntect_easy.specs.syntect_theme.declared.theme.Theme.{Theme}
use Rattle.syntect_parsing.specs.Line.{Accepted}
use Rattle.syntect_easy.specs.syntect_grammar_contexts.declared.syntax_reference.SyntaxReference.{SyntaxReference}
use Rattle.syntect_easy.specs.syntect_grammar.declared.syntax_set.SyntaxSet.{SyntaxSet}
use Rattle.syntect_writers.specs.Lines.{lines_of}
use Rattle.syntect_writers.specs.Spans.{line_text, opening, closing, background_of}
use Rattle.syntect_writers.specs.declared.html.IncludeBackground.TheVariants.{IfDifferent}
use Rattle.syntect_parsing.specs.States.{standing}
use Rattle.syntect_easy.specs.Leads.{reader_of, Leads, Continues, LacksStart, RunsOrderly}
use Rattle.syntect_easy.specs.syntect_grammar_loader.declared.definition.SyntaxDefinition.{SyntaxDefinition}
use Rattle.syntect_easy.specs.Pages.{Row, AreJoined, AreStyled, AreShown, lines_in, answers_in, past_of, body_text, IsPage, IsWhyNoPage}
use Rattle.syntect_easy.proofs.LeadLaws.{orderly_before}
use Rattle.syntect_easy.specs.declared.easy.HighlightLines.{HighlightLines}
use Rattle.syntect_easy.specs.syntect_grammar.declared.error.Error.{Error}
use Rattle.syntect_easy.specs.syntect_grammar.declared.error.Error.TheVariants as error

-- the rows of the lines so far are on the page
pub record IsSoFar (set : SyntaxSet) (theme : Theme) (syntax : SyntaxReference) (text left page : List ℕ) (h : HighlightLines) : Type 0 where
  pub rows : List Row
  pub leads : Leads set theme syntax (lines_in rows) (answers_in rows) h
  pub lines : lines_in rows ++ lines_of left ≡ lines_of text
  pub shown : AreShown set theme syntax rows
  pub written : page ≡ opening theme ++ body_text theme rows

pub shown_none : (set : SyntaxSet) (theme : Theme) (syntax : SyntaxReference) → AreShown set theme syntax []
shown_none set theme syntax = record { joins = tt; styled = λ _. tt }

pub so_far_none : (set : SyntaxSet) (theme : Theme) (syntax : SyntaxReference) (text left page : List ℕ) (h : HighlightLines) → Leads set theme syntax [] [] h → left ≡ text → page ≡ opening theme
    → IsSoFar set theme syntax text left page h
so_far_none set theme syntax text left page h l e f = record {
  rows = [];
  leads = l;
  lines = ap lines_of e;
  shown = shown_none set theme syntax;
  written = f ∙ sym (append-nil (opening theme));
}

pub map_last : {X Y : Type 0} (f : X → Y) (xs : List X) (x : X) → map f (xs ++ x ∷ []) ≡ map f xs ++ f x ∷ []
map_last f [] x = refl
map_last f (y ∷ ys) x = ap (λ zs. f y ∷ zs) (map_last f ys x)

joined_last : (rows : List Row) (row : Row) → AreJoined rows → Joins row.line row.pieces → AreJoined (rows ++ row ∷ [])
joined_last [] row s t = (t, tt)
joined_last (r ∷ rows) row s t = (s.0, joined_last rows row s.1 t)

styled_last : (theme : Theme) (rows : List Row) (row : Row) → AreStyled theme rows → IsStyled theme row.scopes row.pieces → AreStyled theme (rows ++ row ∷ [])
styled_last theme [] row s t = (t, tt)
styled_last theme (r ∷ rows) row s t = (s.0, styled_last theme rows row s.1 t)

-- one row more, where its pieces join, and are styled if the lines up to it are orderly
pub shown_last : (set : SyntaxSet) (theme : Theme) (syntax : SyntaxReference) (rows : List Row) (row : Row) → AreShown set theme syntax rows → Joins row.line row.pieces
    → (RunsOrderly set syntax (lines_in rows ++ row.line ∷ []) → IsStyled theme row.scopes row.pieces) → AreShown set theme syntax (rows ++ row ∷ [])
shown_last set theme syntax rows row s j t = record {
  joins = joined_last rows row s.joins j;
  styled = λ o.
      let p : RunsOrderly set syntax (lines_in rows ++ row.line ∷ []) = subst (RunsOrderly set syntax) (map_last (λ (r : Row). r.line) rows row) o in
      styled_last theme rows row (s.styled (orderly_before set syntax (lines_in rows) row.line p)) (t p);
}

pub written_last : (theme : Theme) (rows : List Row) (row : Row) (page next : List ℕ) → page ≡ opening theme ++ body_text theme rows
    → next ≡ page ++ line_text (IfDifferent (background_of theme)) row.pieces → next ≡ opening theme ++ body_text theme (rows ++ row ∷ [])
written_last theme rows row page next e f =
    f ∙ ap (λ (xs : List ℕ). xs ++ line_text (IfDifferent (background_of theme)) row.pieces) e
    ∙ append_assoc (opening theme) (body_text theme rows) _
    ∙ ap (λ (xs : List ℕ). opening theme ++ xs)
    (ap (λ (xs : List ℕ). body_text theme rows ++ xs) (sym (append-nil (line_text (IfDifferent (background_of theme)) row.pieces)))
    ∙ sym (flat_map-append (λ (r : Row). line_text (IfDifferent (background_of theme)) r.pieces) rows (row ∷ [])))

unfoldable pub so_far_more : (set : SyntaxSet) (definitions : List SyntaxDefinition) (theme : Theme) (syntax : SyntaxReference) (text left rest page next : List ℕ) (line : Bor (List ℕ)) (h new : HighlightLines) (pieces : Vec (Style × Bor (List ℕ)))
    (s : IsSoFar set theme syntax text left page h)
    → Continues (past_of definitions theme syntax s.rows) set line new (Ok pieces)
    → lines_of left ≡ line.now ∷ lines_of rest
    → next ≡ page ++ line_text (IfDifferent (background_of theme)) pieces.items
    → IsSoFar set theme syntax text rest next new
so_far_more set definitions theme syntax text left rest page next line h new pieces s l e f =
    let row : Row = record { line = line.now; scopes = l.0; pieces = pieces.items } in
    let some : List Row = s.rows ++ row ∷ [] in
    record {
      rows = some;
      leads = rw (map_last (λ (r : Row). r.line) s.rows row, map_last (λ (r : Row). Accepted r.scopes) s.rows row) l.1.leads;
      lines =
          ap (λ xs. xs ++ lines_of rest) (map_last (λ (r : Row). r.line) s.rows row)
          ∙ append_assoc (lines_in s.rows) (line.now ∷ []) (lines_of rest)
          ∙ ap (λ xs. lines_in s.rows ++ xs) (sym e)
          ∙ s.lines;
      shown = shown_last set theme syntax s.rows row s.shown l.2 l.3;
      written = written_last theme s.rows row page next s.written f;
    }

pub page_whole : (set : SyntaxSet) (theme : Theme) (syntax : SyntaxReference) (text left page whole : List ℕ) (h : HighlightLines) → IsSoFar set theme syntax text left page h → lines_of left ≡ [] → whole ≡ page ++ closing
    → IsPage set theme syntax text whole
page_whole set theme syntax text left page whole h s e f = record {
  rows = s.rows;
  start = s.leads.start;
  after = standing (reader_of h);
  begins = s.leads.begins;
  lines = sym (append-nil (lines_in s.rows)) ∙ ap (λ xs. lines_in s.rows ++ xs) (sym e) ∙ s.lines;
  run = s.leads.run;
  shown = s.shown;
  written = f ∙ ap (λ (xs : List ℕ). xs ++ closing) s.written ∙ append_assoc (opening theme) (body_text theme s.rows) closing;
}

pub no_page : (set : SyntaxSet) (definitions : List SyntaxDefinition) (theme : Theme) (syntax : SyntaxReference) (text left page : List ℕ) (line : Bor (List ℕ)) (rest : List (List ℕ)) (h new : HighlightLines) (e : Error)
    (s : IsSoFar set theme syntax text left page h)
    → Continues (past_of definitions theme syntax s.rows) set line new (Err e)
    → lines_of left ≡ line.now ∷ rest → IsWhyNoPage set syntax text e
no_page set definitions theme syntax text left page line rest h new (error.ParsingError e) s l f =
    inr (record {
      rows = s.rows;
      line = line.now;
      rest = rest;
      start = l.leads.start;
      after = standing (reader_of new);
      begins = l.leads.begins;
      lines = ap (λ xs. lines_in s.rows ++ xs) (sym f) ∙ s.lines;
      run = l.leads.run;
    })
no_page set definitions theme syntax text left page line rest h new error.Memory s l f = tt
no_page set definitions theme syntax text left page line rest h new (error.ScopeError e) s l f = absurd l
no_page set definitions theme syntax text left page line rest h new (error.LoadingError e) s l f = absurd l
no_page set definitions theme syntax text left page line rest h new (error.Fmt e) s l f = absurd l
no_page set definitions theme syntax text left page line rest h new (error.Io e) s l f = absurd l
no_page set definitions theme syntax text left page line rest h new error.NoSyntax s l f = absurd l
no_page set definitions theme syntax text left page line rest h new (error.ParseSyntax e) s l f = absurd l
no_page set definitions theme syntax text left page line rest h new (error.ParseScope e) s l f = absurd l
no_page set definitions theme syntax text left page line rest h new (error.Pattern e) s l f = absurd l

pub no_start : (set : SyntaxSet) (syntax : SyntaxReference) (text : List ℕ) (e : Error) → LacksStart syntax e → IsWhyNoPage set syntax text e
no_start set syntax text (error.ParsingError e) l = inl l
no_start set syntax text error.Memory l = tt
no_start set syntax text (error.ScopeError e) l = absurd l
no_start set syntax text (error.LoadingError e) l = absurd l
no_start set syntax text (error.Fmt e) l = absurd l
no_start set syntax text (error.Io e) l = absurd l
no_start set syntax text error.NoSyntax l = absurd l
no_start set syntax text (error.ParseSyntax e) l = absurd l
no_start set syntax text (error.ParseScope e) l = absurd l
no_start set syntax text (error.Pattern e) l = absurd l
