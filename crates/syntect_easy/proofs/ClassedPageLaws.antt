-- Lines given to a generator, and the page of its closed text.
use Rattle.std.proofs.Common.{◌≡◌, ℕ, List, [], ◌∷◌, ◌++◌, map, length, refl, sym, ap, ◌∙◌, append_assoc, append-nil, Some}
use Rattle.std.specs.List.{concat, flat_map}
use Rattle.syntect_easy.specs.syntect_scope.Stack.{plain}
use Rattle.syntect_easy.specs.syntect_scope.Replay.{replay, before_text, bytes_to}
use Rattle.syntect_easy.specs.syntect_scope.declared.stack.ScopeStack.{ScopeStack}
use Rattle.syntect_easy.specs.syntect_reading_choice.Engine.{dialect}
use Rattle.syntect_parsing.specs.Laws.{AnswersMore, StackIsOpen}
use Rattle.syntect_parsing.specs.Line.{Accepted, AnswersAll, none, accepts, start_id, start_of, stack_before}
use Rattle.syntect_parsing.specs.Meaning.{Accepts}
use Rattle.syntect_parsing.specs.Stacks.{IsAt}
use Rattle.syntect_parsing.specs.declared.parser.Standing.{Standing}
use Rattle.syntect_writers.specs.Classes.{prefix_of}
use Rattle.syntect_writers.specs.Marks.{marks, written, stack_after}
use Rattle.syntect_writers.specs.declared.class_style.ClassStyle.{ClassStyle}
use Rattle.syntect_writers.specs.Laws.{Line, AreInOrder, PagesAreSeen, page_text, page_scopes}
use Rattle.syntect_easy.specs.syntect_grammar_contexts.declared.syntax_reference.SyntaxReference.{SyntaxReference}
use Rattle.syntect_easy.specs.syntect_grammar.declared.syntax_set.SyntaxSet.{SyntaxSet}
use Rattle.syntect_easy.specs.Classed.{text_so_far, stack_in, state_in, set_in, repository_in, style_in, AddsLine, CanRestore, StaysAt, closed_text}
use Rattle.syntect_easy.specs.ClassedPages.{IsGiven, no_lines, accepted, refused, StandsAfter, IsClassedPage, ShowsScopes}
use Rattle.syntect_easy.specs.Leads.{BeginsPlain, RunsOrderly}
use Rattle.syntect_easy.specs.declared.classed.ClassedHTMLGenerator.{ClassedHTMLGenerator}
use Rattle.syntect_easy.proofs.ClassedLaws.{replay_stack, new_restores, line_restores, still_restores}
use Rattle.syntect_easy.proofs.LeadLaws.{orderly_before, starts_empty}
use Rattle.syntect_easy.proofs.PageLaws.{map_last}

-- ---- stacks after lines ----

-- the stack after lines
abbrev pub behind : ScopeStack → List Line → ScopeStack
behind stack [] = stack
behind stack (l ∷ ls) = behind (stack_after stack l.1) ls

behind_last : (stack : ScopeStack) (ls : List Line) (l : Line) → behind stack (ls ++ l ∷ []) ≡ stack_after (behind stack ls) l.1
behind_last stack [] l = refl
behind_last stack (m ∷ ls) l = behind_last (stack_after stack m.1) ls l

-- the scopes of lines and of one more
scopes_last : (stack : ScopeStack) (ls : List Line) (l : Line)
    → page_scopes stack (ls ++ l ∷ []) ≡ page_scopes stack ls ++ bytes_to (replay l.1 (before_text (behind stack ls))) (length l.0)
scopes_last stack [] l = append-nil (bytes_to (replay l.1 (before_text stack)) (length l.0))
scopes_last stack (m ∷ ls) l =
    ap (λ xs. bytes_to (replay m.1 (before_text stack)) (length m.0) ++ xs) (scopes_last (stack_after stack m.1) ls l)
    ∙ sym (append_assoc (bytes_to (replay m.1 (before_text stack)) (length m.0)) (page_scopes (stack_after stack m.1) ls) (bytes_to (replay l.1 (before_text (behind (stack_after stack m.1) ls))) (length l.0)))

order_last : (ls : List Line) (l : Line) → AreInOrder ls → AreInOrder (l ∷ []) → AreInOrder (ls ++ l ∷ [])
order_last [] l h k = k
order_last (m ∷ ls) l h k = (h.0, order_last ls l h.1 k)

-- lists joined, and one more after them
abbrev all_of : {X : Type 0} → List (List X) → List X
all_of xss = flat_map (λ xs. xs) xss

all_last : {X : Type 0} (xss : List (List X)) (xs : List X) → all_of (xss ++ xs ∷ []) ≡ all_of xss ++ xs
all_last [] xs = append-nil xs
all_last (ys ∷ xss) xs = ap (λ zs. ys ++ zs) (all_last xss xs) ∙ sym (append_assoc ys (all_of xss) xs)

texts : (ls : List Line) → flat_map (λ (l : Line). l.0) ls ≡ concat (map (λ (l : Line). l.0) ls)
texts [] = refl
texts (l ∷ ls) = ap (λ xs. l.0 ++ xs) (texts ls)

-- ---- lines that were given ----

abbrev pub lines_in : List Line → List (List ℕ)
lines_in ls = map (λ l. l.0) ls

-- These lines were accepted, with these scopes; the text so far and what is written of more lines
-- is the page of all of them; and where lines are orderly the generator's stack is
-- that of its levels.
record HasGiven (set : SyntaxSet) (syntax : SyntaxReference) (repository : List (List ℕ)) (style : ClassStyle) (given : List (List ℕ)) (g : ClassedHTMLGenerator) : Type 0 where
  lines : List Line
  scopes : List (List (List (List ℕ)))
  start : Standing
  begins : start_of syntax ≡ Some start
  run : AnswersAll dialect set (lines_in lines) start (map Accepted scopes) (state_in g)
  all : lines_in lines ≡ given
  order : AreInOrder lines
  page : (rest : List Line) → text_so_far g ++ page_text (prefix_of style) repository (stack_in g) rest ≡ page_text (prefix_of style) repository (plain []) (lines ++ rest)
  stands : stack_in g ≡ behind (plain []) lines
  levels : BeginsPlain set syntax → RunsOrderly set syntax (lines_in lines) → stack_in g ≡ stack_before set (state_in g)
  shown : BeginsPlain set syntax → RunsOrderly set syntax (lines_in lines) → page_scopes (plain []) lines ≡ all_of scopes
  has_set : set_in g ≡ set
  has_repository : repository_in g ≡ repository
  has_style : style_in g ≡ style
  restores : BeginsPlain set syntax → CanRestore g

module _ (set : SyntaxSet) (syntax : SyntaxReference) (repository : List (List ℕ)) (style : ClassStyle) where
  given_none : (g : ClassedHTMLGenerator) → start_of syntax ≡ Some (state_in g) → text_so_far g ≡ [] → stack_in g ≡ plain [] → set_in g ≡ set → repository_in g ≡ repository → style_in g ≡ style
      → HasGiven set syntax repository style [] g
  given_none g b t k s r y = record {
    lines = [];
    scopes = [];
    start = state_in g;
    begins = b;
    run = none;
    all = refl;
    order = tt;
    page = λ rest.
        ap (λ (xs : List ℕ). xs ++ page_text (prefix_of style) repository (stack_in g) rest) t ∙ ap (λ (stack : ScopeStack). page_text (prefix_of style) repository stack rest) k;
    stands = k;
    levels = λ p o. k ∙ sym (starts_empty set (start_id syntax) (state_in g) b);
    shown = λ p o. refl;
    has_set = s;
    has_repository = r;
    has_style = y;
    restores = λ p. new_restores set syntax g p b s;
  }

  given_more : (given : List (List ℕ)) (line : List ℕ) (g h : ClassedHTMLGenerator) → AnswersMore → StackIsOpen → HasGiven set syntax repository style given g → AddsLine line g h
      → HasGiven set syntax repository style (given ++ line ∷ []) h
  given_more given line g h more opens s a =
      let l : Line = (line, a.ops) in
      let acc : Accepts dialect set line (state_in g) (state_in h) a.ops = rw s.has_set at a.accepted in
      let P : List ℕ = prefix_of style in
      let named : lines_in (s.lines ++ l ∷ []) ≡ lines_in s.lines ++ line ∷ [] = map_last (λ (m : Line). m.0) s.lines l in
      let stack_is : stack_in h ≡ stack_after (stack_in g) a.ops = a.stack in
      let at_end : BeginsPlain set syntax → RunsOrderly set syntax (lines_in (s.lines ++ l ∷ [])) → IsAt (replay a.ops (before_text (stack_in g))) (length line) acc.bytes (stack_before set (state_in h)) =
      (λ p o.
      let q : RunsOrderly set syntax (lines_in s.lines ++ line ∷ []) = rw named at o in
      let k = acc.means.shows (opens dialect set (lines_in s.lines) s.start (state_in g) (map Accepted s.scopes) (p s.start s.begins) s.run)
      (q s.start s.begins (lines_in s.lines) [] line (map Accepted s.scopes) (state_in g) (state_in h) acc.bytes acc.turns refl s.run acc.reads) in
      rw (← (s.levels p (orderly_before set syntax (lines_in s.lines) line q))) at k) in
      record {
        lines = s.lines ++ l ∷ [];
        scopes = s.scopes ++ acc.bytes ∷ [];
        start = s.start;
        begins = s.begins;
        run = rw (named, map_last Accepted s.scopes acc.bytes) (more dialect set (lines_in s.lines) line s.start (state_in g) (state_in h) (map Accepted s.scopes) (Accepted acc.bytes) s.run (accepts acc.reads));
        all = named ∙ ap (λ xs. xs ++ line ∷ []) s.all;
        order = order_last s.lines l s.order (acc.means.order, tt);
        page = λ ls.
            let t : text_so_far h ≡ text_so_far g ++ written P repository (marks line 0 (stack_in g) a.ops) = rw (s.has_style, s.has_repository) at a.text in
            ap (λ xs. xs ++ page_text P repository (stack_in h) ls) t
            ∙ append_assoc (text_so_far g) (written P repository (marks line 0 (stack_in g) a.ops)) (page_text P repository (stack_in h) ls)
            ∙ ap (λ k. text_so_far g ++ (written P repository (marks line 0 (stack_in g) a.ops) ++ page_text P repository k ls)) stack_is
            ∙ s.page (l ∷ ls)
            ∙ ap (λ xs. page_text P repository (plain []) xs) (sym (append_assoc s.lines (l ∷ []) ls));
        stands = stack_is ∙ ap (λ k. stack_after k a.ops) s.stands ∙ sym (behind_last (plain []) s.lines l);
        levels = λ p o. stack_is ∙ sym (replay_stack a.ops (before_text (stack_in g))) ∙ (at_end p o).stack;
        shown = λ p o.
            scopes_last (plain []) s.lines l
            ∙ ap (λ k. page_scopes (plain []) s.lines ++ bytes_to (replay a.ops (before_text k)) (length line)) (sym s.stands)
            ∙ ap (λ xs. page_scopes (plain []) s.lines ++ xs) (at_end p o).before
            ∙ ap (λ xs. xs ++ acc.bytes) (s.shown p (orderly_before set syntax (lines_in s.lines) line (rw named at o)))
            ∙ sym (all_last s.scopes acc.bytes);
        has_set = a.goes_on.set ∙ s.has_set;
        has_repository = a.goes_on.repository ∙ s.has_repository;
        has_style = a.goes_on.style ∙ s.has_style;
        restores = λ p. line_restores line g h a (s.restores p);
      }

  -- a refused line leaves the generator as it was
  given_still : (given : List (List ℕ)) (g h : ClassedHTMLGenerator) → HasGiven set syntax repository style given g → StaysAt g h → HasGiven set syntax repository style given h
  given_still given g h s a = record {
    lines = s.lines;
    scopes = s.scopes;
    start = s.start;
    begins = s.begins;
    run = rw (← a.state) at s.run;
    all = s.all;
    order = s.order;
    page = λ rest.
        ap (λ (xs : List ℕ). xs ++ page_text (prefix_of style) repository (stack_in h) rest) a.text
        ∙ ap (λ (stack : ScopeStack). text_so_far g ++ page_text (prefix_of style) repository stack rest) a.stack
        ∙ s.page rest;
    stands = a.stack ∙ s.stands;
    levels = λ p o. a.stack ∙ s.levels p o ∙ ap (stack_before set) (sym a.state);
    shown = s.shown;
    has_set = a.goes_on.set ∙ s.has_set;
    has_repository = a.goes_on.repository ∙ s.has_repository;
    has_style = a.goes_on.style ∙ s.has_style;
    restores = λ p. still_restores g h a (s.restores p);
  }

  has_given : (given : List (List ℕ)) (g : ClassedHTMLGenerator) → AnswersMore → StackIsOpen → IsGiven set syntax repository style given g → HasGiven set syntax repository style given g
  has_given _ g more opens (no_lines b t k s r y) = given_none g b t k s r y
  has_given _ h more opens (accepted {lines = lines} {line = line} {g = g} i a) = given_more lines line g h more opens (has_given lines g more opens i) a
  has_given given h more opens (refused {g = g} i a) = given_still given g h (has_given given g more opens i) a

  pub given_stands : (given : List (List ℕ)) (g : ClassedHTMLGenerator) → AnswersMore → StackIsOpen → IsGiven set syntax repository style given g → StandsAfter set syntax given g
  given_stands given g more opens i =
      let s = has_given given g more opens i in
      record { start = s.start; scopes = s.scopes; begins = s.begins; run = rw s.all at s.run; has_set = s.has_set; restores = s.restores }

  pub closed_is_page : (given : List (List ℕ)) (g : ClassedHTMLGenerator) → AnswersMore → StackIsOpen → PagesAreSeen → IsGiven set syntax repository style given g
      → IsClassedPage (ShowsScopes set syntax given) set syntax repository (prefix_of style) given (closed_text g)
  closed_is_page given g more opens seen i =
      let s = has_given given g more opens i in
      let P : List ℕ = prefix_of style in
      let v = seen P repository (plain []) [] s.lines s.order in
      let page : closed_text g ≡ page_text P repository (plain []) s.lines = s.page [] ∙ ap (λ xs. page_text P repository (plain []) xs) (append-nil s.lines) in
      record {
        start = s.start;
        after = state_in g;
        scopes = s.scopes;
        bytes = v.bytes;
        begins = s.begins;
        run = rw s.all at s.run;
        read_back = rw (← page) at v.read_back;
        is_text = v.text ∙ texts s.lines ∙ ap concat s.all;
        has_scopes = λ p. v.scopes ∙ s.shown p.0 (rw (← s.all) at p.1);
      }
