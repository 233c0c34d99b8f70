-- A page with classes while it is written.
use Rattle.std.proofs.Common.{◌≡◌, ℕ, List, [], ◌∷◌, ◌++◌, map, refl, sym, ap, subst, ◌∙◌, append_assoc, append-nil, inl, inr}
use Rattle.std.specs.List.{concat}
use Rattle.syntect_callers.specs.syntect_scope.Stack.{plain}
use Rattle.std.specs.Prelude.{Some, None}
use Rattle.syntect_callers.specs.syntect_reading_choice.Engine.{dialect}
use Rattle.syntect_callers.specs.syntect_parsing.Laws.{AnswersMore}
use Rattle.syntect_callers.specs.syntect_parsing.Line.{Answer, Accepted, RefusedBy, AnswersAll, RefusesLine, none, one_more, refuses, start_of}
use Rattle.syntect_callers.specs.syntect_parsing.declared.parser.Standing.{Standing}
use Rattle.syntect_callers.specs.syntect_writers.Lines.{lines_of}
use Rattle.syntect_callers.specs.syntect_writers.Classes.{prefix_of}
use Rattle.syntect_callers.specs.syntect_writers.declared.class_style.ClassStyle.{ClassStyle}
use Rattle.syntect_callers.specs.syntect_grammar_contexts.declared.error.ParsingError.{ParsingError}
use Rattle.syntect_callers.specs.syntect_grammar_contexts.declared.syntax_reference.SyntaxReference.{SyntaxReference}
use Rattle.syntect_callers.specs.syntect_grammar.declared.syntax_set.SyntaxSet.{SyntaxSet}
use Rattle.syntect_callers.specs.syntect_grammar.declared.error.Error.{Error}
use Rattle.syntect_callers.specs.syntect_grammar.declared.error.Error.TheVariants as error
use Rattle.syntect_easy.specs.Classed.{text_so_far, stack_in, state_in, set_in, repository_in, style_in, AddsLine, RefusesLineOf, closed_text}
use Rattle.syntect_easy.specs.ClassedPages.{IsGiven, no_lines, accepted, StandsAfter, GivenStands, IsClassedPage, ShowsScopes, ClosedIsPage}
use Rattle.syntect_easy.specs.Leads.{BeginsPlain, LacksStart, RunsOrderly}
use Rattle.syntect_easy.specs.Pages.{Row, IsRefusedAtALine, IsWhyNoPage, lines_in, answers_in}
use Rattle.syntect_easy.specs.declared.classed.ClassedHTMLGenerator.{ClassedHTMLGenerator}
use Rattle.syntect_callers.specs.ClassedPages.{IsClassedPageOf, HasNoClassedPage}

-- the lines up to those that are left were given to the generator, which accepted them
pub record ClassedSoFar (set : SyntaxSet) (syntax : SyntaxReference) (repository : List (List ℕ)) (style : ClassStyle) (text left : List ℕ) (g : ClassedHTMLGenerator) : Type 0 where
  pub lines : List (List ℕ)
  pub given : IsGiven set syntax repository style lines g
  pub all : lines ++ lines_of left ≡ lines_of text

module _ (set : SyntaxSet) (syntax : SyntaxReference) (repository : List (List ℕ)) (style : ClassStyle) (text : List ℕ) where
  pub so_far_none : (left : List ℕ) (g : ClassedHTMLGenerator)
      → start_of syntax ≡ Some (state_in g) → text_so_far g ≡ [] → stack_in g ≡ plain [] → set_in g ≡ set → repository_in g ≡ repository → style_in g ≡ style → left ≡ text
      → ClassedSoFar set syntax repository style text left g
  so_far_none left g b t k s r y e = record { lines = []; given = no_lines b t k s r y; all = ap lines_of e }

  pub so_far_more : (left rest line : List ℕ) (g h : ClassedHTMLGenerator)
      → ClassedSoFar set syntax repository style text left g → AddsLine line g h → lines_of left ≡ line ∷ lines_of rest
      → ClassedSoFar set syntax repository style text rest h
  so_far_more left rest line g h s a e = record {
    lines = s.lines ++ line ∷ [];
    given = accepted s.given a;
    all = append_assoc s.lines (line ∷ []) (lines_of rest) ∙ ap (λ xs. s.lines ++ xs) (sym e) ∙ s.all;
  }

  -- ---- the page ----

  pub page_whole : (left page : List ℕ) (g : ClassedHTMLGenerator) → ClosedIsPage → ((t : List ℕ) → concat (lines_of t) ≡ t)
      → ClassedSoFar set syntax repository style text left g → lines_of left ≡ [] → page ≡ closed_text g
      → IsClassedPageOf (ShowsScopes set syntax (lines_of text)) set syntax repository (prefix_of style) text page
  page_whole left page g closed joins s e w =
      let all : s.lines ≡ lines_of text = sym (append-nil s.lines) ∙ ap (λ xs. s.lines ++ xs) (sym e) ∙ s.all in
      let p : IsClassedPage (ShowsScopes set syntax s.lines) set syntax repository (prefix_of style) s.lines (closed_text g) = closed set syntax repository style s.lines g s.given in
      let q : IsClassedPage (ShowsScopes set syntax (lines_of text)) set syntax repository (prefix_of style) (lines_of text) (closed_text g) =
      subst (λ (ls : List (List ℕ)). IsClassedPage (ShowsScopes set syntax ls) set syntax repository (prefix_of style) ls (closed_text g)) all p in
      record {
        of_lines = subst (λ (xs : List ℕ). IsClassedPage (ShowsScopes set syntax (lines_of text)) set syntax repository (prefix_of style) (lines_of text) xs) (sym w) q;
        joined = joins text;
      }

  -- where the syntax begins plain, orderly lines suffice
  pub page_plain : (page : List ℕ) → BeginsPlain set syntax → IsClassedPageOf (ShowsScopes set syntax (lines_of text)) set syntax repository (prefix_of style) text page
      → IsClassedPageOf (RunsOrderly set syntax (lines_of text)) set syntax repository (prefix_of style) text page
  page_plain page b p =
      let l = p.of_lines in
      record {
        of_lines = record {
          start = l.start;
          after = l.after;
          scopes = l.scopes;
          bytes = l.bytes;
          begins = l.begins;
          run = l.run;
          read_back = l.read_back;
          is_text = l.is_text;
          has_scopes = λ o. l.has_scopes (b, o);
        };
        joined = p.joined;
      }

  -- ---- no page ----

  pub stops : (left line : List ℕ) (rest : List (List ℕ)) (g : ClassedHTMLGenerator) (e : Error) → GivenStands
      → ClassedSoFar set syntax repository style text left g → lines_of left ≡ line ∷ rest → RefusesLineOf g line e → HasNoClassedPage set syntax text e
  stops left line rest g e stands s l r =
      let b : StandsAfter set syntax s.lines g = stands set syntax repository style s.lines g s.given in
      inr (record {
        lines = s.lines;
        line = line;
        rest = rest;
        scopes = b.scopes;
        start = b.start;
        generator = g;
        begins = b.begins;
        run = b.run;
        all = ap (λ xs. s.lines ++ xs) (sym l) ∙ s.all;
        has_set = b.has_set;
        refuses = r;
      })

-- ---- refusals of readings ----

-- rows of lines that were accepted, of which no pieces are asked
record RowsFor (lines : List (List ℕ)) (answers : List Answer) : Type 0 where
  rows : List Row
  lines_are : lines_in rows ≡ lines
  answers_are : answers_in rows ≡ answers

rows_for : {set : SyntaxSet} {lines : List (List ℕ)} {start after : Standing} {answers : List Answer} → AnswersAll dialect set lines start answers after
    → (scopes : List (List (List (List ℕ)))) → answers ≡ map Accepted scopes → RowsFor lines answers
rows_for none scopes e = record { rows = []; lines_are = refl; answers_are = refl }
rows_for (one_more {answer = Accepted b} a run) [] e = cc
rows_for (one_more {line = line} {answer = Accepted b} a run) (s ∷ scopes) e =
    let r = rows_for run scopes cc in
    record {
      rows = record { line = line; scopes = b; pieces = [] } ∷ r.rows;
      lines_are = ap (λ (ls : List (List ℕ)). line ∷ ls) r.lines_are;
      answers_are = ap (λ (xs : List Answer). Accepted b ∷ xs) r.answers_are;
    }
rows_for (one_more {answer = RefusedBy x} a run) [] e = cc
rows_for (one_more {answer = RefusedBy x} a run) (s ∷ scopes) e = cc

module _ (set : SyntaxSet) (syntax : SyntaxReference) (repository : List (List ℕ)) (style : ClassStyle) (text : List ℕ) where
  -- a line whose reading is refused
  refused_at : (line : List ℕ) (rest : List (List ℕ)) (g : ClassedHTMLGenerator) (e : ParsingError) (turns : ℕ) (lines : List (List ℕ)) → AnswersMore → StandsAfter set syntax lines g
      → lines ++ line ∷ rest ≡ lines_of text → RefusesLine dialect (set_in g) line (state_in g) e turns → IsRefusedAtALine set syntax text e
  refused_at line rest g e turns lines more b l r =
      let rows = rows_for b.run b.scopes refl in
      let x : RefusesLine dialect set line (state_in g) e turns = rw b.has_set at r in
      let run = more dialect set lines line b.start (state_in g) (state_in g) (map Accepted b.scopes) (RefusedBy e) b.run (refuses x) in
      record {
        rows = rows.rows;
        line = line;
        rest = rest;
        start = b.start;
        after = state_in g;
        begins = b.begins;
        lines = ap (λ (ls : List (List ℕ)). ls ++ line ∷ rest) rows.lines_are ∙ l;
        run = subst (λ (xs : List Answer). AnswersAll dialect set (lines_in rows.rows ++ line ∷ []) b.start (xs ++ RefusedBy e ∷ []) (state_in g)) (sym rows.answers_are)
            (subst (λ (ls : List (List ℕ)). AnswersAll dialect set (ls ++ line ∷ []) b.start (map Accepted b.scopes ++ RefusedBy e ∷ []) (state_in g)) (sym rows.lines_are) run);
      }

  -- if memory runs out for the end of a page, it runs out after the start
  pub wanting : (left : List ℕ) (g : ClassedHTMLGenerator) → GivenStands → ClassedSoFar set syntax repository style text left g → HasNoClassedPage set syntax text error.Memory
  wanting left g stands s =
      let b : StandsAfter set syntax s.lines g = stands set syntax repository style s.lines g s.given in
      inl (λ n. let k : Some b.start ≡ None = sym b.begins ∙ n in cc)

  -- in a set whose syntax begins plain a line is refused by its reading alone
  pub no_page : (left line : List ℕ) (rest : List (List ℕ)) (g : ClassedHTMLGenerator) (e : Error) → AnswersMore → GivenStands → BeginsPlain set syntax
      → ClassedSoFar set syntax repository style text left g → lines_of left ≡ line ∷ rest → RefusesLineOf g line e → IsWhyNoPage set syntax text e
  no_page left line rest g (error.ParsingError e) more stands plain s l r =
      inr (refused_at line rest g e r.0 s.lines more (stands set syntax repository style s.lines g s.given) (ap (λ xs. s.lines ++ xs) (sym l) ∙ s.all) r.1)
  no_page left line rest g (error.ScopeError e) more stands plain s l r = absurd (r.0 ((stands set syntax repository style s.lines g s.given).restores plain))
  no_page left line rest g error.Memory more stands plain s l r = tt
  no_page left line rest g (error.LoadingError e) more stands plain s l r = absurd r
  no_page left line rest g (error.Fmt e) more stands plain s l r = absurd r
  no_page left line rest g (error.Io e) more stands plain s l r = absurd r
  no_page left line rest g error.NoSyntax more stands plain s l r = absurd r
  no_page left line rest g (error.ParseSyntax e) more stands plain s l r = absurd r
  no_page left line rest g (error.ParseScope e) more stands plain s l r = absurd r
  no_page left line rest g (error.Pattern e) more stands plain s l r = absurd r

-- there is no page where the syntax has no `__start`
pub no_start : (set : SyntaxSet) (syntax : SyntaxReference) (text : List ℕ) (e : Error) → LacksStart syntax e → IsWhyNoPage set syntax text e
no_start set syntax text (error.ParsingError e) l = inl l
no_start set syntax text error.Memory l = tt
no_start set syntax text (error.ScopeError e) l = absurd l
no_start set syntax text (error.LoadingError e) l = absurd l
no_start set syntax text (error.Fmt e) l = absurd l
no_start set syntax text (error.Io e) l = absurd l
no_start set syntax text error.NoSyntax l = absurd l
no_start set syntax text (error.ParseSyntax e) l = absurd l
no_start set syntax text (error.ParseScope e) l = absurd l
no_start set syntax text (error.Pattern e) l = absurd l
