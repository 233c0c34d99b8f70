-- What matches need.
use Rattle.std.proofs.Common.{◌≡◌, subst, ◌==◌, ne_eqb, ◌<◌, ◌≤◌, ◌+◌, ◌&&◌, ◌||◌, suc, inl, inr, ℕ, Bool, true, false, not, List, [], ◌∷◌, ◌++◌, length, get_or, refl, sym, ◌∙◌, ap, arith, Option, Some, None}
use Rattle.std.specs.Prelude.{IsUtf8, IsCharBoundary}
use Rattle.std.specs.Char.{len_utf8}
use Rattle.std.specs.List.{flat_map}
use Rattle.std.specs.Int.{bit_at}
use Rattle.std.proofs.lemmas.Bool.{cases_lt}
use Rattle.std.proofs.lemmas.Bool.Decides.{nat_tests}
use Rattle.std.proofs.lemmas.Str.{len_utf8_ascii}
use Rattle.syntect_pattern.specs.Text.{char_at}
use Rattle.syntect_pattern.specs.Sets.{Set, from_to, holds, range}
use Rattle.syntect_pattern.specs.Letters.{letters_tree}
use Rattle.syntect_pattern.specs.Trees.{Tree, nothing, one_of, anchor, same, seq, alt, repeat, group, atomic, ahead, behind}
use Rattle.syntect_pattern.specs.Matches.{Groups, Member, matches, only_if, past}
use Rattle.syntect_pattern.specs.Nesting.{looks_fail}
use Rattle.syntect_pattern.proofs.Each.{Each, each_of}
use Rattle.syntect_pattern.proofs.MatchLaws.{Step, IsClosed, steps-matches}
use Rattle.syntect_pattern.proofs.TextLemmas.{boundary-past}
use Rattle.syntect_pattern_table.specs.Needs.{Needs}
use Rattle.syntect_pattern_table.specs.Starts.{can_hold, is_in, start_at}
use Rattle.syntect_pattern_table.specs.declared.starts.Places.{Places}
use Rattle.syntect_pattern_table.proofs.PlaceLaws.{in_end, in_low, in_wide}
use Rattle.syntect_pattern_table.proofs.BeginLaws.{start-bound, start-wide}
use Rattle.syntect_pattern_table.proofs.StartLaws.{char_at-past, char_at-ascii, dead-at}
use Rattle.syntect_pattern_compile.specs.NeedViews.{BeginsIn, IsAmong, IsNeeded, PassesNeeds, is_one}
use Rattle.syntect_pattern_compile.specs.declared.needs.Sought.{Sought}

-- -- Matches end after their place, on boundaries

abbrev Ends : List ℕ → Bool → Step
Ends s b i g j h = IsCharBoundary s i → (i ≤ j) × IsCharBoundary s j

ends-closed : (s : List ℕ) → IsUtf8 s → IsClosed s (λ n. false) (Ends s)
ends-closed s u = record {
  here = λ b i g at. (omega arith, at);
  reads = λ b i c g e at. (omega arith, boundary-past s i c u at e);
  joins = λ b i j k g h l p q at. (let x = p at in let y = q x.1 in (omega (arith, x.0, y.0), y.1));
  closes = λ b n i j g h no p at. p at;
  looks = λ b k i j g h from p at. (omega arith, at);
}

no_pick : (b : Bool) → not (b && false) ≡ true
no_pick true = refl
no_pick false = refl

none-fail : (b : Bool) (t : Tree) → looks_fail (λ n. false) b t ≡ true
none-fail b nothing = refl
none-fail b (one_of a) = refl
none-fail b (anchor a) = refl
none-fail b (same fold n) = refl
none-fail b (seq x y) = ap (λ c. c && looks_fail (λ n. false) b y) (none-fail b x) ∙ none-fail b y
none-fail b (alt x y) = ap (λ c. c && looks_fail (λ n. false) b y) (none-fail b x) ∙ none-fail b y
none-fail b (repeat greedy least most x) = none-fail b x
none-fail b (group n x) = ap (λ c. c && looks_fail (λ n. false) b x) (no_pick b) ∙ none-fail b x
none-fail b (atomic x) = none-fail b x
none-fail b (ahead negated x) = none-fail true x
none-fail b (behind negated x) = none-fail true x

ends-matches : (s : List ℕ) → IsUtf8 s → (t : Tree) (i : ℕ) (g : Groups) → IsCharBoundary s i → Each (λ m. (i ≤ m.0) × IsCharBoundary s m.0) (matches s t i g)
ends-matches s u t i g at =
    each_of (λ m. Ends s false i g m.0 m.1) (λ m. (i ≤ m.0) × IsCharBoundary s m.0) (matches s t i g) (λ m h. h at)
    (steps-matches s u (λ n. false) (Ends s) (ends-closed s u) false t (none-fail false t) i g)

-- -- What stands at a place

no-and : (a b : Bool) → (a && b) ≡ false → a ≡ true → b ≡ false
no-and true b e h = e
no-and false b e h = cc

and-no : (a b : Bool) → (a && b) ≡ false → b ≡ true → a ≡ false
and-no a true e h = (let c : a ≡ (a && true) = and-true a in c) ∙ e
  where
    and-true : (x : Bool) → x ≡ (x && true)
    and-true true = refl
    and-true false = refl
and-no a false e h = cc

-- no match begins where the tree can't
dead : (s : List ℕ) → IsUtf8 s → (p : Places) (t : Tree) → BeginsIn p t → (i : ℕ) → IsCharBoundary s i → is_in p (start_at s i) ≡ false → (g : Groups) → matches s t i g ≡ []
dead s u p t known i at out g = dead-at s u t i (sym (known (start_at s i) (start-bound s i)) ∙ out) at g

-- -- What each tree needs

-- everything stands anywhere
pub need-none : (here next : ℕ → Bool) → ((x : ℕ) → here x ≡ true) → ((x : ℕ) → next x ≡ true) → (t : Tree) → Needs here next t
need-none here next h n t s i g u at absent =
    absurd (let e : true ≡ false = sym (h (start_at s i)) ∙ and-no (here (start_at s i)) (next (start_at s (suc i))) (absent i (omega arith)) (n (start_at s (suc i))) in cc)

-- a match needs what it begins with
pub need-begin : (p : Places) (next : ℕ → Bool) → ((x : ℕ) → next x ≡ true) → (t : Tree) → BeginsIn p t → Needs (is_in p) next t
need-begin p next n t known s i g u at absent =
    dead s u p t known i at (and-no (is_in p (start_at s i)) (next (start_at s (suc i))) (absent i (omega arith)) (n (start_at s (suc i)))) g

-- of a character of ASCII and what comes after it a match needs both, side by side
pub need-pair : (p q : Places) (x y : Tree) → is_one x ≡ true → p.wide ≡ false → BeginsIn p x → BeginsIn q y → Needs (is_in p) (is_in q) (seq x y)
need-pair p q nothing y one narrow first second s i g u at absent = cc
need-pair p q (anchor _) y one narrow first second s i g u at absent = cc
need-pair p q (same _ _) y one narrow first second s i g u at absent = cc
need-pair p q (seq _ _) y one narrow first second s i g u at absent = cc
need-pair p q (alt _ _) y one narrow first second s i g u at absent = cc
need-pair p q (repeat _ _ _ _) y one narrow first second s i g u at absent = cc
need-pair p q (group _ _) y one narrow first second s i g u at absent = cc
need-pair p q (atomic _) y one narrow first second s i g u at absent = cc
need-pair p q (ahead _ _) y one narrow first second s i g u at absent = cc
need-pair p q (behind _ _) y one narrow first second s i g u at absent = cc
need-pair p q (one_of a) y one narrow first second s i g u at absent = by (is_in p (start_at s i)) refl
  where
    at_next : (d : ℕ) → char_at s i ≡ Some d → len_utf8 d ≡ 1 → is_in p (start_at s i) ≡ true → matches s y (i + len_utf8 d) g ≡ []
    at_next d c one e =
        let next : suc i ≡ i + len_utf8 d = omega (arith, one) in
        let out : is_in q (start_at s (suc i)) ≡ false = no-and (is_in p (start_at s i)) (is_in q (start_at s (suc i))) (absent i (omega arith)) e in
        dead s u q y second (i + len_utf8 d) (boundary-past s i d u at c) (ap (λ k. is_in q (start_at s k)) (sym next) ∙ out) g

    behind : (d : ℕ) → char_at s i ≡ Some d → is_in p (start_at s i) ≡ true → matches s y (i + len_utf8 d) g ≡ []
    behind d c e = elim (cases_lt i (length s)) [
      | inl h ↦ elim (cases_lt (get_or s i 0) 128) [
        | inl l ↦
            let same : Some (get_or s i 0) ≡ Some d = sym (char_at-ascii s i h l) ∙ c in
            let it : get_or s i 0 ≡ d = cc in
            at_next d c (len_utf8_ascii d (omega (arith, it, l))) e
        | inr l ↦ absurd (let k : true ≡ false = sym e ∙ sym (in_wide p (start_at s i) (start-wide s i h l)) ∙ narrow in cc)
      ]
      | inr h ↦ absurd (let k : None ≡ Some d = sym (char_at-past s i h) ∙ c in cc)
    ]

    by : (b : Bool) → is_in p (start_at s i) ≡ b → matches s (seq (one_of a) y) i g ≡ []
    by false e = ap (flat_map (λ (j, q). matches s y j q)) (dead s u p (one_of a) first i at e g)
    by true e = at_char (char_at s i) refl
      where
        at_char : (o : Option ℕ) → char_at s i ≡ o → flat_map (λ (j, q). matches s y j q) (past (holds a) o i g) ≡ []
        at_char None c = refl
        at_char (Some d) c = reads_it (holds a d)
          where
            reads_it : (b : Bool) → flat_map (λ (j, q). matches s y j q) (only_if b (i + len_utf8 d) g) ≡ []
            reads_it false = refl
            reads_it true = ap (λ xs. xs ++ []) (behind d c e)

flat-none : (f : Member → List Member) (ms : List Member) → Each (λ m. f m ≡ []) ms → flat_map f ms ≡ []
flat-none f [] e = refl
flat-none f (m ∷ ms) e = ap (λ xs. xs ++ flat_map f ms) e.0 ∙ flat-none f ms e.1

-- what is needed by the first of two parts
pub need-first : (here next : ℕ → Bool) (x y : Tree) → Needs here next x → Needs here next (seq x y)
need-first here next x y h s i g u at absent = ap (flat_map (λ (j, q). matches s y j q)) (h s i g u at absent)

-- and by the second
pub need-second : (here next : ℕ → Bool) (x y : Tree) → Needs here next y → Needs here next (seq x y)
need-second here next x y h s i g u at absent =
    flat-none (λ (j, q). matches s y j q) (matches s x i g)
    (each_of (λ m. (i ≤ m.0) × IsCharBoundary s m.0) (λ m. matches s y m.0 m.1 ≡ []) (matches s x i g)
    (λ m e. h s m.0 m.1 u e.1 (λ k l. absent k (omega (arith, e.0, l))))
    (ends-matches s u x i g at))

-- of two branches both
pub need-either : (here next : ℕ → Bool) (x y : Tree) → Needs here next x → Needs here next y → Needs here next (alt x y)
need-either here next x y h k s i g u at absent = ap (λ ms. ms ++ matches s y i g) (h s i g u at absent) ∙ k s i g u at absent

not-and : (a b c d : Bool) → (a ≡ true → c ≡ true) → (b ≡ true → d ≡ true) → (c && d) ≡ false → (a && b) ≡ false
not-and false b c d h k e = refl
not-and true false c d h k e = refl
not-and true true c d h k e = ap (λ (x : Bool). x && true) (sym (h refl)) ∙ ap (λ (x : Bool). c && x) (sym (k refl)) ∙ e

-- what is needed is needed among others
pub need-among : (x : Sought) (here next : ℕ → Bool) (t : Tree) → IsAmong x here next → IsNeeded x t → Needs here next t
need-among x here next t among need s i g u at absent =
    need s i g u at (λ k l. not-and (is_in x.here (start_at s k)) (is_in x.next (start_at s (suc k))) (here (start_at s k)) (next (start_at s (suc k)))
    (among.0 (start_at s k)) (among.1 (start_at s (suc k))) (absent k l))

-- what is needed is needed where the same stands
pub need-same : (here here' next : ℕ → Bool) (t : Tree) → ((x : ℕ) → x < 130 → here x ≡ here' x) → Needs here next t → Needs here' next t
need-same here here' next t is need s i g u at absent =
    need s i g u at (λ k l. ap (λ (b : Bool). b && next (start_at s (suc k))) (is (start_at s k) (start-bound s k)) ∙ absent k l)

one_there : (b x : ℕ) → b < 128 → x < 130 → can_hold (range b b) x ≡ (x == b)
one_there b x h l = grind (arith, nat_tests)

-- of these there is only the one
pub single : (p q : Places) (b : ℕ) → b < 128 → p.wide ≡ false → p.end ≡ false → p.ascii ≡ q.ascii → ((x : ℕ) → x < 130 → is_in q x ≡ can_hold (range b b) x)
    → (x : ℕ) → x < 130 → is_in p x ≡ (x == b)
single p q b h narrow inside equal known x l = elim (cases_lt x 128) [
  | inl a ↦ sym (in_low p x a) ∙ ap (λ (n : ℕ). bit_at n x == 1) equal ∙ in_low q x a ∙ known x l ∙ one_there b x h l
  | inr w ↦ elim (cases_lt 128 x) [
    | inl e ↦ sym (in_end p x e) ∙ inside ∙ sym (ne_eqb x b (λ y. omega (arith, y, h, e)))
    | inr e ↦ sym (in_wide p x (omega (arith, w, e))) ∙ narrow ∙ sym (ne_eqb x b (λ y. omega (arith, y, h, w)))
  ]
]

-- -- Letters

none-more : (b : Bool) → (b || false) ≡ b
none-more true = refl
none-more false = refl

pub none_left : (cs : List ℕ) → length cs ≡ 0 → cs ≡ []
none_left [] e = refl
none_left (c ∷ cs) e = absurd (omega (arith, e))

-- a character begins a match of it
pub letter-begins : (p : Places) (a : Set) → ((x : ℕ) → x < 130 → is_in p x ≡ can_hold a x) → BeginsIn p (one_of a)
letter-begins p a h x l = h x l ∙ sym (none-more (can_hold a x))

-- and one of it with anything after it
pub letters-begin : (p : Places) (a : Set) (t : Tree) → ((x : ℕ) → x < 130 → is_in p x ≡ can_hold a x) → BeginsIn p (seq (one_of a) t)
letters-begin p a t h x l = h x l ∙ sym (none-more (can_hold a x)) ∙ sym (none-more (can_hold a x || false))

-- what comes after letters is needed with them
pub need-behind : (here next : ℕ → Bool) (fold : Bool) (cs : List ℕ) (t : Tree) → Needs here next t → Needs here next (letters_tree fold cs t)
need-behind here next fold [] t n = n
need-behind here next fold (c ∷ cs) t n = need-second here next (one_of (from_to fold c c)) (letters_tree fold cs t) (need-behind here next fold cs t n)

-- of two letters in a row the first is needed with the second
pub need-letters : (x : Sought) (q : Places) (fold : Bool) (first second : ℕ) (others more : List ℕ) (u : Tree) → others ≡ second ∷ more
    → ((t : Tree) → BeginsIn q t → IsNeeded x (seq (one_of (from_to fold first first)) t))
    → ((k : ℕ) → k < 130 → is_in q k ≡ can_hold (from_to fold second second) k) → IsNeeded x (letters_tree fold (first ∷ others) u)
need-letters x q fold first second others more u e pair known =
    subst (λ (cs : List ℕ). IsNeeded x (letters_tree fold (first ∷ cs) u)) (sym e)
    (pair (letters_tree fold (second ∷ more) u) (letters-begin q (from_to fold second second) (letters_tree fold more u) known))

-- letters after the first one are needed with it
pub leads-letters : (fold : Bool) (first second : ℕ) (others more : List ℕ) (u t : Tree) → others ≡ second ∷ more → PassesNeeds (letters_tree fold (first ∷ others) u) t
    → PassesNeeds (letters_tree fold (second ∷ more) u) t
leads-letters fold first second others more u t e leads here next n =
    leads here next (need-second here next (one_of (from_to fold first first)) (letters_tree fold others u) (subst (λ (cs : List ℕ). Needs here next (letters_tree fold cs u)) (sym e) n))
