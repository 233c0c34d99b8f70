-- The text of lines with classes while it is written.
use Rattle.std.proofs.Common.{◌≡◌, ℕ, zero, suc, ◌+◌, ◌<◌, List, [], ◌∷◌, ◌++◌, map, length, drop, get_or, refl, sym, ap, subst, ◌∙◌, append-nil, append_assoc, arith}
use Rattle.std.specs.Prelude.{Option, Some, None, Result, Ok, Err, IfOk}
use Rattle.std.specs.List.{flat_map}
use Rattle.std.proofs.lemmas.List.{length_push, map-append}
use Rattle.syntect_documents.specs.syntect_base.declared.limits.Limits.{Limits}
use Rattle.syntect_documents.specs.syntect_grammar_contexts.declared.syntax_reference.SyntaxReference.{SyntaxReference}
use Rattle.syntect_documents.specs.syntect_grammar.declared.syntax_set.SyntaxSet.{SyntaxSet}
use Rattle.syntect_documents.specs.syntect_parsing.Line.{start_of}
use Rattle.syntect_documents.specs.syntect_parsing.declared.parser.Standing.{Standing}
use Rattle.syntect_documents.specs.syntect_parsing.declared.within.LineLimit.{LineLimit}
use Rattle.syntect_documents.specs.syntect_scope.Stack.{plain}
use Rattle.syntect_documents.specs.syntect_scope.declared.stack.ScopeStack.{ScopeStack}
use Rattle.syntect_documents.specs.syntect_scope.declared.stack.ScopeStackOp.{ScopeStackOp}
use Rattle.syntect_documents.specs.syntect_writers.Lines.{lines_of}
use Rattle.syntect_documents.specs.syntect_writers.Marks.{stack_after}
use Rattle.syntect_documents.specs.syntect_writers.Spans.{closing}
use Rattle.syntect_documents.specs.syntect_assets.Texts.{first_of}
use Rattle.syntect_documents.specs.syntect_writers.declared.class_style.ClassStyle.{ClassStyle}
use Rattle.syntect_documents.specs.syntect_assets.Assets.{language_named}
use Rattle.syntect_documents.specs.syntect_assets.declared.assets.Assets.{Assets}
use Rattle.syntect_documents.specs.syntect_assets.declared.assets.Shown.{Shown}
use Rattle.syntect_documents.specs.syntect_assets.declared.error.AssetsError.{AssetsError}
use Rattle.syntect_documents.specs.Classed.{AreReadWithin, ClassedLine, IsClassed, IsReadWithin, ShowsClassedIn, ShowsClassedText, classed_line, classed_lines, classed_opening, first_limit, limit_or}
use Rattle.syntect_documents.specs.declared.lines.LineForm.{LineForm}

-- the stack after lines
abbrev pub behind : ScopeStack → List ClassedLine → ScopeStack
behind stack [] = stack
behind stack (l ∷ ls) = behind (stack_after stack l.operations) ls

-- the lines of what was read are on the page, and the first plain one of them is known
pub record IsSoFar (limits : Limits) (form : LineForm) (set : SyntaxSet) (syntax : SyntaxReference) (repository : List (List ℕ)) (prefix whole left page : List ℕ) (number : ℕ) (first : Option (ℕ × LineLimit)) (state : Standing) (stack : ScopeStack) : Type 0 where
  pub lines : List ClassedLine
  pub start : Standing
  pub begins : start_of syntax ≡ Some start
  pub lines_are : map (λ (l : ClassedLine). l.line) lines ++ lines_of left ≡ lines_of whole
  pub read : AreReadWithin limits set start lines state
  pub stack_is : stack ≡ behind (plain []) lines
  pub written : page ≡ classed_opening prefix ++ classed_lines form prefix repository form.first (plain []) lines
  pub count : number ≡ form.first + length lines
  pub first_is : first ≡ first_limit 0 lines

behind_last : (stack : ScopeStack) (ls : List ClassedLine) (l : ClassedLine) → behind stack (ls ++ l ∷ []) ≡ stack_after (behind stack ls) l.operations
behind_last stack [] l = refl
behind_last stack (m ∷ ls) l = behind_last (stack_after stack m.operations) ls l

read_last : (limits : Limits) (set : SyntaxSet) (start state after : Standing) (ls : List ClassedLine) (l : ClassedLine) → AreReadWithin limits set start ls state → IsReadWithin limits set l.line l.operations state after l.limit → AreReadWithin limits set start (ls ++ l ∷ []) after
read_last limits set start state after [] l e r = (after, subst (λ (s : Standing). IsReadWithin limits set l.line l.operations s after l.limit) e r, refl)
read_last limits set start state after (m ∷ ls) l h r = (h.0, h.1, read_last limits set h.0 state after ls l h.2 r)

lines_last : (form : LineForm) (prefix : List ℕ) (repository : List (List ℕ)) (number : ℕ) (stack : ScopeStack) (ls : List ClassedLine) (l : ClassedLine)
    → classed_lines form prefix repository number stack (ls ++ l ∷ []) ≡ classed_lines form prefix repository number stack ls ++ classed_line form prefix repository (number + length ls) (behind stack ls) l.line l.operations
lines_last form prefix repository number stack [] l =
    let e : number ≡ number + 0 = omega arith in
    append-nil (classed_line form prefix repository number stack l.line l.operations) ∙ ap (λ (n : ℕ). classed_line form prefix repository n stack l.line l.operations) e
lines_last form prefix repository number stack (m ∷ ls) l =
    let one : List ℕ = classed_line form prefix repository number stack m.line m.operations in
    let others : List ℕ = classed_lines form prefix repository (number + 1) (stack_after stack m.operations) ls in
    let last : ℕ → List ℕ = λ n. classed_line form prefix repository n (behind (stack_after stack m.operations) ls) l.line l.operations in
    let e : (number + 1) + length ls ≡ number + length (m ∷ ls) = omega arith in
    ap (λ (xs : List ℕ). one ++ xs) (lines_last form prefix repository (number + 1) (stack_after stack m.operations) ls l)
    ∙ sym (append_assoc one others (last ((number + 1) + length ls)))
    ∙ ap (λ (n : ℕ). (one ++ others) ++ last n) e

limit_alone : (limit : Option LineLimit) (before : ℕ) → limit_or limit before None ≡ first_of None (before + 0) limit
limit_alone None before = refl
limit_alone (Some limit) before = let e : before ≡ before + 0 = omega arith in ap (λ (n : ℕ). Some (n + 1, limit)) e

limit_before : (limit last : Option LineLimit) (before many : ℕ) (some others : Option (ℕ × LineLimit)) → some ≡ first_of others many last → limit_or limit before some ≡ first_of (limit_or limit before others) many last
limit_before None last before many some others e = e
limit_before (Some limit) last before many some others e = refl

first_last : (before : ℕ) (ls : List ClassedLine) (l : ClassedLine) → first_limit before (ls ++ l ∷ []) ≡ first_of (first_limit before ls) (before + length ls) l.limit
first_last before [] l = limit_alone l.limit before
first_last before (m ∷ ls) l =
    let e : (before + 1) + length ls ≡ before + length (m ∷ ls) = omega arith in
    limit_before m.limit l.limit before (before + length (m ∷ ls)) (first_limit (before + 1) (ls ++ l ∷ [])) (first_limit (before + 1) ls)
    (first_last (before + 1) ls l ∙ ap (λ (n : ℕ). first_of (first_limit (before + 1) ls) n l.limit) e)

written_last : (form : LineForm) (prefix : List ℕ) (repository : List (List ℕ)) (ls : List ClassedLine) (l : ClassedLine) (number : ℕ) (stack : ScopeStack) (page more : List ℕ)
    → page ≡ classed_opening prefix ++ classed_lines form prefix repository form.first (plain []) ls → number ≡ form.first + length ls → stack ≡ behind (plain []) ls
    → more ≡ page ++ classed_line form prefix repository number stack l.line l.operations → more ≡ classed_opening prefix ++ classed_lines form prefix repository form.first (plain []) (ls ++ l ∷ [])
written_last form prefix repository ls l number stack page more e n s f =
    let front : List ℕ = classed_opening prefix in
    let had : List ℕ = classed_lines form prefix repository form.first (plain []) ls in
    f
    ∙ ap (λ (xs : List ℕ). xs ++ classed_line form prefix repository number stack l.line l.operations) e
    ∙ append_assoc front had (classed_line form prefix repository number stack l.line l.operations)
    ∙ ap (λ (k : ℕ). front ++ (had ++ classed_line form prefix repository k stack l.line l.operations)) n
    ∙ ap (λ (k : ScopeStack). front ++ (had ++ classed_line form prefix repository (form.first + length ls) k l.line l.operations)) s
    ∙ ap (λ (xs : List ℕ). front ++ xs) (sym (lines_last form prefix repository form.first (plain []) ls l))

module _ (limits : Limits) (form : LineForm) (set : SyntaxSet) (syntax : SyntaxReference) (repository : List (List ℕ)) (prefix whole : List ℕ) where
  pub no_lines : (text page : List ℕ) (state : Standing) (stack : ScopeStack) → text ≡ whole → start_of syntax ≡ Some state → stack ≡ plain [] → page ≡ classed_opening prefix
      → IsSoFar limits form set syntax repository prefix whole text page form.first None state stack
  no_lines text page state stack t b k e = record {
    lines = [];
    start = state;
    begins = b;
    lines_are = ap lines_of t;
    read = refl;
    stack_is = k;
    written = e ∙ sym (append-nil (classed_opening prefix));
    count = omega arith;
    first_is = refl;
  }

  pub line_more : (left rest page more line : List ℕ) (ops : List (ℕ × ScopeStackOp)) (limit : Option LineLimit) (number before : ℕ) (first now : Option (ℕ × LineLimit)) (state after : Standing) (stack new : ScopeStack)
      → IsSoFar limits form set syntax repository prefix whole left page number first state stack
      → lines_of left ≡ line ∷ lines_of rest → IsReadWithin limits set line ops state after limit
      → more ≡ page ++ classed_line form prefix repository number stack line ops → new ≡ stack_after stack ops → number ≡ form.first + before → now ≡ first_of first before limit
      → IsSoFar limits form set syntax repository prefix whole rest more (number + 1) now after new
  line_more left rest page more line ops limit number before first now state after stack new s g r e k b f =
      let l : ClassedLine = record { line = line; operations = ops; limit = limit } in
      let counted : before ≡ 0 + length s.lines = omega (arith, s.count, b) in
      record {
        lines = s.lines ++ l ∷ [];
        start = s.start;
        begins = s.begins;
        lines_are =
            ap (λ (xs : List (List ℕ)). xs ++ lines_of rest) (map-append (λ (m : ClassedLine). m.line) s.lines (l ∷ []))
            ∙ append_assoc (map (λ (m : ClassedLine). m.line) s.lines) (line ∷ []) (lines_of rest)
            ∙ ap (λ (xs : List (List ℕ)). map (λ (m : ClassedLine). m.line) s.lines ++ xs) (sym g)
            ∙ s.lines_are;
        read = read_last limits set s.start state after s.lines l s.read r;
        stack_is = k ∙ ap (λ (o : ScopeStack). stack_after o ops) s.stack_is ∙ sym (behind_last (plain []) s.lines l);
        written = written_last form prefix repository s.lines l number stack page more s.written s.count s.stack_is e;
        count = let q : length (s.lines ++ l ∷ []) ≡ length s.lines + 1 = length_push s.lines l in omega (arith, s.count, q);
        first_is =
            f
            ∙ ap (λ (o : Option (ℕ × LineLimit)). first_of o before limit) s.first_is
            ∙ ap (λ (n : ℕ). first_of (first_limit 0 s.lines) n limit) counted
            ∙ sym (first_last 0 s.lines l);
      }

  pub all_lines : (left page all : List ℕ) (number : ℕ) (first : Option (ℕ × LineLimit)) (state : Standing) (stack : ScopeStack) → IsSoFar limits form set syntax repository prefix whole left page number first state stack
      → lines_of left ≡ [] → all ≡ page ++ closing → IsClassed limits form set syntax repository prefix whole all first
  all_lines left page all number first state stack s g e = record {
    lines = s.lines;
    start = s.start;
    after = state;
    begins = s.begins;
    lines_are = sym (append-nil (map (λ (l : ClassedLine). l.line) s.lines)) ∙ ap (λ (xs : List (List ℕ)). map (λ (l : ClassedLine). l.line) s.lines ++ xs) (sym g) ∙ s.lines_are;
    read = s.read;
    written = e ∙ ap (λ (xs : List ℕ). xs ++ closing) s.written ∙ append_assoc (classed_opening prefix) (classed_lines form prefix repository form.first (plain []) s.lines) closing;
    first_is = s.first_is;
  }

-- what is shown in a syntax is shown in the language of its name
pub classed_named : (result : Result Shown AssetsError) (assets : Assets) (text name : List ℕ) (style : ClassStyle) (form : LineForm) (syntax : SyntaxReference) → language_named assets name ≡ Some syntax
    → IfOk result (ShowsClassedIn assets text syntax style form) → IfOk result (ShowsClassedText assets text name style form)
classed_named (Ok shown) assets text name style form syntax named h = record { syntax = syntax; named = named; shows = h }
classed_named (Err e) assets text name style form syntax named h = h

-- the tag of one scope more is written
pub tags_more : (f : List ℕ → List ℕ) (scopes : List (List ℕ)) (i : ℕ) (scope other out new whole : List ℕ) → i < length scopes → scope ≡ get_or scopes i other → new ≡ out ++ f scope
    → out ++ flat_map f (drop i scopes) ≡ whole → new ++ flat_map f (drop (suc i) scopes) ≡ whole
tags_more f [] i scope other out new whole l e p k = absurd (omega (arith, l))
tags_more f (s ∷ ss) zero scope other out new whole l e p k = ap (λ (x : List ℕ). x ++ flat_map f ss) (p ∙ ap (λ (t : List ℕ). out ++ f t) e) ∙ append_assoc out (f s) (flat_map f ss) ∙ k
tags_more f (s ∷ ss) (suc i) scope other out new whole l e p k = tags_more f ss i scope other out new whole (omega (arith, l)) e p k
