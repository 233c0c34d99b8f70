-- A page while it is written from a reader.
use Rattle.std.proofs.Common.{◌≡◌, ℕ, Bool, true, false, List, [], ◌∷◌, ◌++◌, ap, ◌∙◌, append_assoc, refl, IsUtf8, Bor, Ok, Err, Result, inl, inr}
use Rattle.std.specs.Prelude.{Option, IfErr}
use Rattle.std.specs.Global.{Vec}
use Rattle.std.specs.declared.io.Error.{Error as IoError}
use Rattle.syntect_easy.specs.syntect_theme.declared.style.Style.{Style}
use Rattle.syntect_easy.specs.syntect_theme.declared.theme.Theme.{Theme}
use Rattle.syntect_easy.specs.syntect_grammar_contexts.declared.syntax_reference.SyntaxReference.{SyntaxReference}
use Rattle.syntect_easy.specs.syntect_grammar.declared.syntax_set.SyntaxSet.{SyntaxSet}
use Rattle.syntect_easy.specs.syntect_grammar.declared.error.Error.{Error}
use Rattle.syntect_easy.specs.syntect_grammar.declared.error.Error.TheVariants as error
use Rattle.syntect_writers.specs.Lines.{lines_of}
use Rattle.syntect_writers.specs.Spans.{line_text, opening, closing, background_of}
use Rattle.syntect_writers.specs.declared.html.IncludeBackground.TheVariants.{IfDifferent}
use Rattle.syntect_parsing.specs.States.{standing}
use Rattle.syntect_easy.specs.Leads.{reader_of, Continues, LacksStart, OnlyParsing}
use Rattle.syntect_easy.specs.syntect_grammar_loader.declared.definition.SyntaxDefinition.{SyntaxDefinition}
use Rattle.syntect_easy.specs.Pages.{Row, lines_in, past_of, body_text, IsPage, IsPageOfBytes, IsRefusedAtALine, IsRefusedAtALineOfBytes, HasNoPageOfBytes, IsReadUpTo, IsReadFault, IsStopped, TellsNoText}
use Rattle.syntect_easy.specs.Rows.{IsTextOf, GivesNext, AreRowsSoFar, HasNoText, HasStopped, RowsHaveNoText, RowsRefuse, RowsStop}
use Rattle.syntect_easy.specs.Files.{FaultsAre, IsLineFault}
use Rattle.syntect_easy.specs.LineErrors.{error_of, lines_error}
use Rattle.syntect_easy.specs.Within.{IsNoReadFault}
use Rattle.syntect_easy.specs.declared.easy.HighlightLines.{HighlightLines}
use Rattle.syntect_easy.proofs.PageLaws.{written_last}
use Rattle.syntect_easy.proofs.RowLaws.{some_text, text_with_rest, less_left, lines_more, rows_go_on, rows_end}

-- what a reader gives, by its answer
pub gives_more : (had left : Option (List ℕ)) (last line : List ℕ) (b : Bool) → b ≡ true → GivesNext had last left line b → GivesNext had last left line true
gives_more had left last line true e g = g
gives_more had left last line false e g = absurd (let q : false ≡ true = e in cc)

pub gives_nothing : (had left : Option (List ℕ)) (last line : List ℕ) (b : Bool) → b ≡ false → GivesNext had last left line b → GivesNext had last left line false
gives_nothing had left last line false e g = g
gives_nothing had left last line true e g = absurd (let q : true ≡ false = e in cc)

-- the rows of what was read are on the page
pub record IsSoFarOfBytes (set : SyntaxSet) (theme : Theme) (syntax : SyntaxReference) (had left : Option (List ℕ)) (last page : List ℕ) (h : HighlightLines) : Type 0 where
  pub rows : List Row
  pub read : AreRowsSoFar set theme syntax had left last rows h
  pub written : page ≡ opening theme ++ body_text theme rows

pub bytes_more : (set : SyntaxSet) (definitions : List SyntaxDefinition) (theme : Theme) (syntax : SyntaxReference) (had left after : Option (List ℕ)) (last page next bytes : List ℕ) (line : Bor (List ℕ)) (h new : HighlightLines) (pieces : Vec (Style × Bor (List ℕ)))
    (s : IsSoFarOfBytes set theme syntax had left last page h)
    → Continues (past_of definitions theme syntax s.rows) set line new (Ok pieces)
    → GivesNext left last after bytes true → line.now ≡ bytes → IsUtf8 bytes
    → next ≡ page ++ line_text (IfDifferent (background_of theme)) pieces.items
    → IsSoFarOfBytes set theme syntax had after bytes next new
bytes_more set definitions theme syntax had left after last page next bytes line h new pieces s l g e u f =
    let row : Row = record { line = line.now; scopes = l.0; pieces = pieces.items } in
    record {
      rows = s.rows ++ row ∷ [];
      read = rows_go_on set definitions theme syntax had left after last bytes s.rows line h new pieces s.read l g e u;
      written = written_last theme s.rows row page next s.written f;
    }

pub bytes_whole : (set : SyntaxSet) (theme : Theme) (syntax : SyntaxReference) (had left after : Option (List ℕ)) (last page whole bytes : List ℕ) (h : HighlightLines)
    (s : IsSoFarOfBytes set theme syntax had left last page h) → GivesNext left last after bytes false → whole ≡ page ++ closing
    → (text : List ℕ) × IsTextOf had text × IsPageOfBytes set theme syntax text whole
bytes_whole set theme syntax had left after last page whole bytes h s g f =
    let t = rows_end set theme syntax had left after last bytes s.rows h s.read g in
    let page_is : IsPage set theme syntax t.0 whole = record {
      rows = s.rows;
      start = t.3.start;
      after = t.3.after;
      begins = t.3.begins;
      lines = t.3.lines;
      run = t.3.run;
      shown = t.3.shown;
      written = f ∙ ap (λ (xs : List ℕ). xs ++ closing) s.written ∙ append_assoc (opening theme) (body_text theme s.rows) closing;
    } in
    (t.0, t.1, (t.2, page_is))

-- ---- no page ----

pub stopped_at_line : RowsRefuse
stopped_at_line set definitions theme syntax had left after last bytes rows line h new (error.ParsingError e) s l g k u =
    let t = text_with_rest had after (s.done ++ bytes) bytes (less_left had left after s.done last bytes s.is_left g) in
    let refused : IsRefusedAtALine set syntax ((s.done ++ bytes) ++ t.0) e = record {
      rows = rows;
      line = line.now;
      rest = lines_of t.0;
      start = l.leads.start;
      after = standing (reader_of new);
      begins = l.leads.begins;
      lines = lines_more s.done last bytes line.now t.0 (lines_in rows) s.lines g.0 g.1 g.2 k t.1;
      run = l.leads.run;
    } in
    ((s.done ++ bytes) ++ t.0, t.2, (refused, s.lines_valid, rw (k) u))
stopped_at_line set definitions theme syntax had left after last bytes rows line h new error.Memory s l g k u = let t = some_text had in (t.0, t.1, tt)
stopped_at_line set definitions theme syntax had left after last bytes rows line h new (error.ScopeError e) s l g k u = absurd l
stopped_at_line set definitions theme syntax had left after last bytes rows line h new (error.Fmt e) s l g k u = absurd l
stopped_at_line set definitions theme syntax had left after last bytes rows line h new (error.Io e) s l g k u = absurd l
stopped_at_line set definitions theme syntax had left after last bytes rows line h new (error.LoadingError e) s l g k u = absurd l
stopped_at_line set definitions theme syntax had left after last bytes rows line h new error.NoSyntax s l g k u = absurd l
stopped_at_line set definitions theme syntax had left after last bytes rows line h new (error.ParseSyntax e) s l g k u = absurd l
stopped_at_line set definitions theme syntax had left after last bytes rows line h new (error.ParseScope e) s l g k u = absurd l
stopped_at_line set definitions theme syntax had left after last bytes rows line h new (error.Pattern e) s l g k u = absurd l

-- a fault of reading comes after the rows so far
pub stopped_after : RowsStop
stopped_after set theme syntax had left last rows h s =
    let t = text_with_rest had left s.done last s.is_left in
    let so_far : IsReadUpTo set syntax (s.done ++ t.0) = record {
      rows = rows;
      rest = lines_of t.0;
      start = s.leads.start;
      after = standing (reader_of h);
      begins = s.leads.begins;
      lines = s.lines t.0 t.1;
      run = s.leads.run;
      valid = s.lines_valid;
    } in
    (s.done ++ t.0, t.2, so_far)

-- and so does a line that is not UTF-8
pub no_text_after : RowsHaveNoText
no_text_after set theme syntax had left after last bytes rows h s g u =
    let t = text_with_rest had after (s.done ++ bytes) bytes (less_left had left after s.done last bytes s.is_left g) in
    let so_far : IsReadUpTo set syntax ((s.done ++ bytes) ++ t.0) = record {
      rows = rows;
      rest = bytes ∷ lines_of t.0;
      start = s.leads.start;
      after = standing (reader_of h);
      begins = s.leads.begins;
      lines = lines_more s.done last bytes bytes t.0 (lines_in rows) s.lines g.0 g.1 g.2 refl t.1;
      run = s.leads.run;
      valid = s.lines_valid;
    } in
    ((s.done ++ bytes) ++ t.0, t.2, so_far, u)

pub err_on : {A : Type 0} (r : Result A Error) (P Q : Error → Type 0) → ((e : Error) → P e → Q e) → IfErr r P → IfErr r Q
err_on (Ok x) P Q f h = tt
err_on (Err e) P Q f h = f e h

module _ (Failed : IoError → Type 0) where
  -- what holds of faults holds of the refusals that they are
  pub read_faults : (Faults : IoError → Type 0) → ((e : IoError) → Faults e → Failed e) → (e : Error) → IsReadFault Faults e → IsReadFault Failed e
  read_faults Faults f (error.ParsingError e) h = absurd h
  read_faults Faults f error.Memory h = tt
  read_faults Faults f (error.ScopeError e) h = absurd h
  read_faults Faults f (error.Fmt e) h = absurd h
  read_faults Faults f (error.Io e) h = f e h
  read_faults Faults f (error.LoadingError e) h = absurd h
  read_faults Faults f error.NoSyntax h = absurd h
  read_faults Faults f (error.ParseSyntax e) h = absurd h
  read_faults Faults f (error.ParseScope e) h = absurd h
  read_faults Faults f (error.Pattern e) h = absurd h

  module _ (set : SyntaxSet) (syntax : SyntaxReference) (had : Option (List ℕ)) where
    pub refused_by_line : (e : Error) → (text : List ℕ) × IsTextOf had text × OnlyParsing (IsRefusedAtALineOfBytes set syntax text) e → HasStopped Failed set syntax had e
    refused_by_line (error.ParsingError e) h = h
    refused_by_line error.Memory h = h
    refused_by_line (error.ScopeError e) h = h
    refused_by_line (error.Fmt e) h = h
    refused_by_line (error.Io e) h = absurd h.2
    refused_by_line (error.LoadingError e) h = h
    refused_by_line error.NoSyntax h = h
    refused_by_line (error.ParseSyntax e) h = h
    refused_by_line (error.ParseScope e) h = h
    refused_by_line (error.Pattern e) h = h

    stopped_by_fault : (theme : Theme) (left : Option (List ℕ)) (last : List ℕ) (rows : List Row) (h : HighlightLines) (e : Error)
        → AreRowsSoFar set theme syntax had left last rows h → IsReadFault Failed e → HasStopped Failed set syntax had e
    stopped_by_fault theme left last rows h (error.ParsingError e) s f = absurd f
    stopped_by_fault theme left last rows h error.Memory s f = let t = some_text had in (t.0, t.1, tt)
    stopped_by_fault theme left last rows h (error.ScopeError e) s f = absurd f
    stopped_by_fault theme left last rows h (error.Fmt e) s f = absurd f
    stopped_by_fault theme left last rows h (error.Io e) s f = let t = stopped_after set theme syntax had left last rows h s in (t.0, t.1, (t.2, inl f))
    stopped_by_fault theme left last rows h (error.LoadingError e) s f = absurd f
    stopped_by_fault theme left last rows h error.NoSyntax s f = absurd f
    stopped_by_fault theme left last rows h (error.ParseSyntax e) s f = absurd f
    stopped_by_fault theme left last rows h (error.ParseScope e) s f = absurd f
    stopped_by_fault theme left last rows h (error.Pattern e) s f = absurd f

    stopped_by_no_text : (theme : Theme) (left after : Option (List ℕ)) (last bytes : List ℕ) (rows : List Row) (h : HighlightLines) (e : Error)
        → AreRowsSoFar set theme syntax had left last rows h → GivesNext left last after bytes true → ¬ (IsUtf8 bytes) → IsReadFault TellsNoText e → HasStopped Failed set syntax had e
    stopped_by_no_text theme left after last bytes rows h (error.ParsingError e) s g u f = absurd f
    stopped_by_no_text theme left after last bytes rows h error.Memory s g u f = let t = some_text had in (t.0, t.1, tt)
    stopped_by_no_text theme left after last bytes rows h (error.ScopeError e) s g u f = absurd f
    stopped_by_no_text theme left after last bytes rows h (error.Fmt e) s g u f = absurd f
    stopped_by_no_text theme left after last bytes rows h (error.Io e) s g u f = let t = no_text_after set theme syntax had left after last bytes rows h s g u in (t.0, t.1, (t.2, inr (f, t.3)))
    stopped_by_no_text theme left after last bytes rows h (error.LoadingError e) s g u f = absurd f
    stopped_by_no_text theme left after last bytes rows h error.NoSyntax s g u f = absurd f
    stopped_by_no_text theme left after last bytes rows h (error.ParseSyntax e) s g u f = absurd f
    stopped_by_no_text theme left after last bytes rows h (error.ParseScope e) s g u f = absurd f
    stopped_by_no_text theme left after last bytes rows h (error.Pattern e) s g u f = absurd f

    pub no_page_of_bytes : (e : Error) → LacksStart syntax e → (text : List ℕ) × IsTextOf had text × HasNoPageOfBytes Failed set syntax text e
    no_page_of_bytes e l = let t = some_text had in (t.0, t.1, inl l)

    pub stopped_page : (e : Error) → HasStopped Failed set syntax had e → (text : List ℕ) × IsTextOf had text × HasNoPageOfBytes Failed set syntax text e
    stopped_page e l = (l.0, l.1, inr l.2)

    -- a fault of reading stops the page
    pub any_fault : {A : Type 0} (r : Result A Error) (theme : Theme) (left : Option (List ℕ)) (last : List ℕ) (rows : List Row) (h : HighlightLines)
        → AreRowsSoFar set theme syntax had left last rows h → IfErr r (IsReadFault Failed) → IfErr r (HasStopped Failed set syntax had)
    any_fault r theme left last rows h s f =
        err_on r (IsReadFault Failed) (HasStopped Failed set syntax had) (λ e. stopped_by_fault theme left last rows h e s) f

    -- and so does a line that is not UTF-8
    pub any_no_text : {A : Type 0} (r : Result A Error) (theme : Theme) (left after : Option (List ℕ)) (last bytes : List ℕ) (rows : List Row) (h : HighlightLines)
        → AreRowsSoFar set theme syntax had left last rows h → GivesNext left last after bytes true → ¬ (IsUtf8 bytes) → IfErr r (IsReadFault TellsNoText) → IfErr r (HasStopped Failed set syntax had)
    any_no_text (Ok x) theme left after last bytes rows h s g u f = tt
    any_no_text (Err e) theme left after last bytes rows h s g u f = stopped_by_no_text theme left after last bytes rows h e s g u f

-- ---- refusals of lines ----

module _ (Failed : IoError → Type 0) (set : SyntaxSet) (syntax : SyntaxReference) (text : List ℕ) where
  -- a refusal of a page is told as one of lines
  pub stopped_so : (e : Error) → IsStopped Failed set syntax text e → IsStopped Failed set syntax text (error_of (lines_error e))
  stopped_so (error.ParsingError e) h = h
  stopped_so error.Memory h = h
  stopped_so (error.ScopeError e) h = absurd h
  stopped_so (error.Fmt e) h = absurd h
  stopped_so (error.Io e) h = h
  stopped_so (error.LoadingError e) h = absurd h
  stopped_so error.NoSyntax h = absurd h
  stopped_so (error.ParseSyntax e) h = absurd h
  stopped_so (error.ParseScope e) h = absurd h
  stopped_so (error.Pattern e) h = absurd h

pub faults_so : (Faults : IoError → Type 0) (e : Error) → FaultsAre Faults e → FaultsAre Faults (error_of (lines_error e))
faults_so Faults (error.ParsingError e) h = tt
faults_so Faults error.Memory h = tt
faults_so Faults (error.ScopeError e) h = tt
faults_so Faults (error.Fmt e) h = tt
faults_so Faults (error.Io e) h = h
faults_so Faults (error.LoadingError e) h = tt
faults_so Faults error.NoSyntax h = tt
faults_so Faults (error.ParseSyntax e) h = tt
faults_so Faults (error.ParseScope e) h = tt
faults_so Faults (error.Pattern e) h = tt

-- ---- lines alone ----

module _ (Failed : IoError → Type 0) (had : Option (List ℕ)) where
  is_line_fault : (There : IoError → Type 0) → ((e : IoError) → There e → Failed e) → (e : Error) → IsReadFault There e → FaultsAre (IsLineFault Failed had) e
  is_line_fault There f (error.ParsingError e) h = tt
  is_line_fault There f error.Memory h = tt
  is_line_fault There f (error.ScopeError e) h = tt
  is_line_fault There f (error.Fmt e) h = tt
  is_line_fault There f (error.Io e) h = inl (f e h)
  is_line_fault There f (error.LoadingError e) h = tt
  is_line_fault There f error.NoSyntax h = tt
  is_line_fault There f (error.ParseSyntax e) h = tt
  is_line_fault There f (error.ParseScope e) h = tt
  is_line_fault There f (error.Pattern e) h = tt

  is_no_text : (text : List ℕ) → IsTextOf had text → HasNoText text → (e : Error) → IsReadFault TellsNoText e → FaultsAre (IsLineFault Failed had) e
  is_no_text text t n (error.ParsingError e) h = tt
  is_no_text text t n error.Memory h = tt
  is_no_text text t n (error.ScopeError e) h = tt
  is_no_text text t n (error.Fmt e) h = tt
  is_no_text text t n (error.Io e) h = inr (h, text, t, n)
  is_no_text text t n (error.LoadingError e) h = tt
  is_no_text text t n error.NoSyntax h = tt
  is_no_text text t n (error.ParseSyntax e) h = tt
  is_no_text text t n (error.ParseScope e) h = tt
  is_no_text text t n (error.Pattern e) h = tt

  is_no_fault : (e : Error) → IsNoReadFault e → FaultsAre (IsLineFault Failed had) e
  is_no_fault (error.ParsingError e) h = tt
  is_no_fault error.Memory h = tt
  is_no_fault (error.ScopeError e) h = tt
  is_no_fault (error.Fmt e) h = tt
  is_no_fault (error.Io e) h = absurd h
  is_no_fault (error.LoadingError e) h = tt
  is_no_fault error.NoSyntax h = tt
  is_no_fault (error.ParseSyntax e) h = tt
  is_no_fault (error.ParseScope e) h = tt
  is_no_fault (error.Pattern e) h = tt

  -- a fault of reading is one of lines
  pub line_faults : {A : Type 0} (r : Result A Error) (There : IoError → Type 0) → ((e : IoError) → There e → Failed e) → IfErr r (IsReadFault There) → IfErr r (FaultsAre (IsLineFault Failed had))
  line_faults r There f h = err_on r (IsReadFault There) (FaultsAre (IsLineFault Failed had)) (is_line_fault There f) h

  -- and so is that of a line which is not UTF-8
  pub no_text_faults : {A : Type 0} (r : Result A Error) (bytes : List ℕ) → (¬ (IsUtf8 bytes) → (text : List ℕ) × IsTextOf had text × HasNoText text) → ¬ (IsUtf8 bytes) → IfErr r (IsReadFault TellsNoText) → IfErr r (FaultsAre (IsLineFault Failed had))
  no_text_faults (Ok x) bytes t u h = tt
  no_text_faults (Err e) bytes t u h = let n = t u in is_no_text n.0 n.1 n.2 e h

  -- any other refusal is none
  pub no_faults : {A : Type 0} (r : Result A Error) → IfErr r IsNoReadFault → IfErr r (FaultsAre (IsLineFault Failed had))
  no_faults r h = err_on r IsNoReadFault (FaultsAre (IsLineFault Failed had)) is_no_fault h
