-- Lines that are read within limits, and shown plain where they reach one.
use Rattle.std.proofs.Common.{◌≡◌, ℕ, ◌-◌, ◌<◌, true, List, [], ◌∷◌, ◌++◌, length, refl, sym, ap, subst, ◌∙◌, append_assoc, append-nil, Bor, arith}
use Rattle.std.specs.Prelude.{Some, None}
use Rattle.std.specs.Io.{StopsAt}
use Rattle.std.proofs.lemmas.Str.{IsUtf8-append, IsUtf8-nil}
use Rattle.syntect_easy.specs.syntect_base.declared.limits.Limits.{Limits}
use Rattle.syntect_easy.specs.syntect_theme.declared.style.Style.{Style}
use Rattle.syntect_easy.specs.syntect_theme.declared.theme.Theme.{Theme}
use Rattle.syntect_easy.specs.syntect_reading_choice.Engine.{dialect}
use Rattle.syntect_parsing.specs.Bound.{TakesNoMore}
use Rattle.syntect_parsing.specs.Line.{Accepted}
use Rattle.syntect_parsing.specs.States.{standing}
use Rattle.syntect_parsing.specs.Within.{IsThere}
use Rattle.syntect_parsing.specs.declared.parser.Standing.{Standing}
use Rattle.syntect_parsing.specs.declared.within.LineLimit.{LineLimit}
use Rattle.syntect_easy.specs.syntect_grammar_contexts.declared.syntax_reference.SyntaxReference.{SyntaxReference}
use Rattle.syntect_easy.specs.syntect_grammar.declared.syntax_set.SyntaxSet.{SyntaxSet}
use Rattle.syntect_writers.specs.Lines.{lines_of}
use Rattle.syntect_easy.specs.Leads.{reader_of}
use Rattle.syntect_easy.specs.Pages.{Row, AreShown}
use Rattle.syntect_easy.specs.Rows.{CanFollow, can_go_on}
use Rattle.syntect_easy.specs.PlainLines.{ArePlainAfter, IsPlainAfter, LinesBegin, LinesEnd, LinesGoOn, ReachesFrom, Shown, read, plain, all_lines, line_in, rows_in}
use Rattle.syntect_easy.specs.Within.{ReachesLimit}
use Rattle.syntect_easy.specs.declared.within.HighlightWithinError.TheVariants.{LimitReached}
use Rattle.syntect_easy.proofs.PageLaws.{map_last, shown_none, shown_last}
use Rattle.syntect_easy.proofs.RowLaws.{all_left, less_left, lines_more, none_left}

-- ---- one line ----

-- turns and steps that were counted on are as many from none
pub reached_from : (limits : Limits) (set : SyntaxSet) (line : List ℕ) (state : Standing) (limit : LineLimit) (old new steps : ℕ) → TakesNoMore dialect set line state old new
    → ReachesLimit limits (new - old) steps (LimitReached limit) → IsThere dialect set line state limit → ReachesFrom limits set line state limit
reached_from limits set line state limit old new steps no_more reaches there = record {
  turns = new - old;
  steps = steps;
  no_more = λ turns t. omega (arith, no_more turns t);
  reaches = reaches;
  there = there;
}

-- ---- one line more ----

rows_last_read : (lines : List Shown) (row : Row) → rows_in (lines ++ read row ∷ []) ≡ rows_in lines ++ row ∷ []
rows_last_read [] row = refl
rows_last_read (read r ∷ lines) row = ap (λ xs. r ∷ xs) (rows_last_read lines row)
rows_last_read (plain line pieces limit ∷ lines) row = rows_last_read lines row

rows_last_plain : (lines : List Shown) (line : List ℕ) (pieces : List (Style × Bor (List ℕ))) (limit : LineLimit) → rows_in (lines ++ plain line pieces limit ∷ []) ≡ rows_in lines
rows_last_plain [] line pieces limit = refl
rows_last_plain (read r ∷ lines) line pieces limit = ap (λ xs. r ∷ xs) (rows_last_plain lines line pieces limit)
rows_last_plain (plain l p k ∷ lines) line pieces limit = rows_last_plain lines line pieces limit

after_read : (limits : Limits) (set : SyntaxSet) (theme : Theme) (syntax : SyntaxReference) (rows : List Row) (lines : List Shown) (row : Row) → ArePlainAfter limits set theme syntax rows lines
    → ArePlainAfter limits set theme syntax rows (lines ++ read row ∷ [])
after_read limits set theme syntax rows [] row h = tt
after_read limits set theme syntax rows (read r ∷ lines) row h = after_read limits set theme syntax (rows ++ r ∷ []) lines row h
after_read limits set theme syntax rows (plain l p k ∷ lines) row h = (h.0, after_read limits set theme syntax rows lines row h.1)

after_plain : (limits : Limits) (set : SyntaxSet) (theme : Theme) (syntax : SyntaxReference) (rows : List Row) (lines : List Shown) (line : List ℕ) (pieces : List (Style × Bor (List ℕ))) (limit : LineLimit)
    → ArePlainAfter limits set theme syntax rows lines → IsPlainAfter limits set theme syntax (rows ++ rows_in lines) line pieces limit
    → ArePlainAfter limits set theme syntax rows (lines ++ plain line pieces limit ∷ [])
after_plain limits set theme syntax rows [] line pieces limit h k = (subst (λ (rs : List Row). IsPlainAfter limits set theme syntax rs line pieces limit) (append-nil rows) k, tt)
after_plain limits set theme syntax rows (read r ∷ lines) line pieces limit h k =
    after_plain limits set theme syntax (rows ++ r ∷ []) lines line pieces limit h
    (subst (λ (rs : List Row). IsPlainAfter limits set theme syntax rs line pieces limit) (sym (append_assoc rows (r ∷ []) (rows_in lines))) k)
after_plain limits set theme syntax rows (plain l p j ∷ lines) line pieces limit h k = (h.0, after_plain limits set theme syntax rows lines line pieces limit h.1 k)

-- the next line's text is that of the line more
texts_more : (done last bytes line rest : List ℕ) (lines : List Shown) (next : Shown) → line_in next ≡ line → ((rest : List ℕ) → CanFollow last rest → all_lines lines ++ lines_of rest ≡ lines_of (done ++ rest))
    → 0 < length bytes → StopsAt bytes 10 → can_go_on last ≡ true → line ≡ bytes → CanFollow bytes rest → all_lines (lines ++ next ∷ []) ++ lines_of rest ≡ lines_of ((done ++ bytes) ++ rest)
texts_more done last bytes line rest lines next same s some stops more e can =
    ap (λ xs. xs ++ lines_of rest) (map_last line_in lines next)
    ∙ append_assoc (all_lines lines) (line_in next ∷ []) (lines_of rest)
    ∙ ap (λ x. all_lines lines ++ (x ∷ lines_of rest)) same
    ∙ lines_more done last bytes line rest (all_lines lines) s some stops more e can

pub lines_begin : LinesBegin
lines_begin limits set theme syntax had last h l e = record {
  done = [];
  valid = IsUtf8-nil;
  leads = l;
  lines_are = λ rest _. refl;
  shown = shown_none set theme syntax;
  plain = tt;
  is_left = all_left had last e;
}

pub lines_go_on : LinesGoOn
lines_go_on limits set definitions theme syntax had left after last bytes lines line h new pieces None s l g e u =
    let row : Row = record { line = line.now; scopes = l.0; pieces = pieces.items } in
    let rows : rows_in (lines ++ read row ∷ []) ≡ rows_in lines ++ row ∷ [] = rows_last_read lines row in (
      read row,
      refl,
      refl,
      record {
        done = s.done ++ bytes;
        valid = IsUtf8-append s.done bytes s.valid u;
        leads = rw (rows, map_last (λ (r : Row). r.line) (rows_in lines) row, map_last (λ (r : Row). Accepted r.scopes) (rows_in lines) row) l.1.leads;
        lines_are = λ rest can. texts_more s.done last bytes line.now rest lines (read row) refl s.lines_are g.0 g.1 g.2 e can;
        shown = subst (AreShown set theme syntax) (sym rows) (shown_last set theme syntax (rows_in lines) row s.shown l.2 l.3);
        plain = after_read limits set theme syntax [] lines row s.plain;
        is_left = less_left had left after s.done last bytes s.is_left g;
      },
    )
lines_go_on limits set definitions theme syntax had left after last bytes lines line h new pieces (Some limit) s l g e u =
    let next : Shown = plain line.now pieces.items limit in
    let rows : rows_in (lines ++ next ∷ []) ≡ rows_in lines = rows_last_plain lines line.now pieces.items limit in (
      next,
      refl,
      refl,
      record {
        done = s.done ++ bytes;
        valid = IsUtf8-append s.done bytes s.valid u;
        leads = rw (rows) l.0.leads;
        lines_are = λ rest can. texts_more s.done last bytes line.now rest lines next refl s.lines_are g.0 g.1 g.2 e can;
        shown = subst (AreShown set theme syntax) (sym rows) s.shown;
        plain = after_plain limits set theme syntax [] lines line.now pieces.items limit s.plain (record {
          start = s.leads.start;
          state = standing (reader_of h);
          begins = s.leads.begins;
          run = s.leads.run;
          reaches = l.2;
          pieces_are = l.1;
        });
        is_left = less_left had left after s.done last bytes s.is_left g;
      },
    )

pub lines_end : LinesEnd
unfolding lines_of
lines_end limits set theme syntax had left after last bytes lines h s g = (
  s.done,
  none_left had left after s.done last bytes s.is_left g,
  s.valid,
  record {
    start = s.leads.start;
    after = standing (reader_of h);
    begins = s.leads.begins;
    lines_are = sym (append-nil (all_lines lines)) ∙ s.lines_are [] (λ _. refl) ∙ ap lines_of (append-nil s.done);
    run = s.leads.run;
    shown = s.shown;
    plain = s.plain;
  },
)
