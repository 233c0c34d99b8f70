-- The groups of a pattern are numbered from 1, by their opening.
use Rattle.std.proofs.Common.{◌≡◌, ℕ, zero, suc, ◌+◌, List, [], ◌∷◌, ◌++◌, length, drop, Bool, true, false, not, ◌&&◌, ◌||◌, Option, Some, None, refl, ap, sym, subst, ◌∙◌, arith}
use Rattle.std.specs.Prelude.{nat_lt, nat_le, option_map, if◌then◌else◌}
use Rattle.std.specs.List.{flat_map, list_any}
use Rattle.syntect_pattern.specs.Sets.{Set, numbers_from, from_to}
use Rattle.syntect_pattern.specs.Trees.{Tree, nothing, one_of, anchor, same, seq, alt, repeat, group, atomic, ahead, behind, seq_all, alt_all, group_count, numbers}
use Rattle.syntect_pattern.specs.declared.anchor.Anchor.{Anchor}
use Rattle.syntect_pattern.specs.Reading.{Text, ◌>>=◌, ◌>>◌, begins, name_in, is_empty, between, pass}
use Rattle.syntect_pattern.specs.Escapes.{Escape, char, set, edge, number, name, escape}
use Rattle.syntect_pattern.specs.Classes.{deepest, class}
use Rattle.syntect_pattern.specs.Grammar.{Flags, Names, Cursor, forward, passed, Quantifier, quantifier, is_allowed, loop, looped, quantified, GroupOpening, setting, opens, numbered, has_name, named_group, flags_at, flag_group, opening, Body, empty_body, with_item, next_alternative, tree_of_body, Next, end, bar, closer, opener, bracket, backslash, dot, caret, dollar, loops, plain, next_of, Step, over, on, number_of, by_number, by_name, dot_set, item, firm, escaped, grouped, step, after_step, body, whole, tree_of, NumbersGroups}
use Rattle.syntect_pattern.proofs.TextLemmas.{some_same}

-- a fact of the value, if there is one
record Gives {A : Type 0} (P : A → Type 0) (o : Option A) : Type 0 where
  fits : (a : A) → o ≡ Some a → P a

gives-none : {A : Type 0} (P : A → Type 0) → Gives P None
gives-none P = record { fits = λ a e. cc }

gives-some : {A : Type 0} (P : A → Type 0) (a : A) → P a → Gives P (Some a)
gives-some P a e = record { fits = λ b q. subst P (some_same a b q) e }

gives-bind : {A B : Type 0} (P : B → Type 0) (o : Option A) (f : A → Option B) → ((a : A) → o ≡ Some a → Gives P (f a)) → Gives P (o >>= f)
gives-bind P None f e = gives-none P
gives-bind P (Some a) f e = e a refl

gives-guard : {B : Type 0} (P : B → Type 0) (t : Bool) (o : Option B) → Gives P o → Gives P (t >> o)
gives-guard P true o e = e
gives-guard P false o e = gives-none P

gives-if : {B : Type 0} (P : B → Type 0) (t : Bool) (a b : Option B) → Gives P a → Gives P b → Gives P (if t then a else b)
gives-if P true a b e f = e
gives-if P false a b e f = f

-- lists
append-nil : {A : Type 0} (xs : List A) → xs ++ [] ≡ xs
append-nil [] = refl
append-nil (x ∷ xs) = ap (λ l. x ∷ l) (append-nil xs)

append-append : {A : Type 0} (xs ys zs : List A) → (xs ++ ys) ++ zs ≡ xs ++ (ys ++ zs)
append-append [] ys zs = refl
append-append (x ∷ xs) ys zs = ap (λ l. x ∷ l) (append-append xs ys zs)

abbrev all_numbers : List Tree → List ℕ
all_numbers ts = flat_map numbers ts

all_numbers-append : (ts us : List Tree) → all_numbers (ts ++ us) ≡ all_numbers ts ++ all_numbers us
all_numbers-append [] us = refl
all_numbers-append (t ∷ ts) us = ap (λ l. numbers t ++ l) (all_numbers-append ts us) ∙ sym (append-append (numbers t) (all_numbers ts) (all_numbers us))

numbers-seq_all : (ts : List Tree) → numbers (seq_all ts) ≡ all_numbers ts
numbers-seq_all [] = refl
numbers-seq_all (a ∷ []) = sym (append-nil (numbers a))
numbers-seq_all (a ∷ b ∷ ts) = ap (λ l. numbers a ++ l) (numbers-seq_all (b ∷ ts))

numbers-alt_all : (ts : List Tree) → numbers (alt_all ts) ≡ all_numbers ts
numbers-alt_all [] = refl
numbers-alt_all (a ∷ []) = sym (append-nil (numbers a))
numbers-alt_all (a ∷ b ∷ ts) = ap (λ l. numbers a ++ l) (numbers-alt_all (b ∷ ts))

from-append : (a k m : ℕ) → numbers_from a (k + m) ≡ numbers_from a k ++ numbers_from (a + k) m
from-append a zero m = let e : zero + m ≡ m = omega arith in let f : a + zero ≡ a = omega arith in ap (numbers_from a) e ∙ ap (λ b. numbers_from b m) (sym f)
from-append a (suc k) m =
    let e : suc k + m ≡ suc (k + m) = omega arith in
    let f : suc a + k ≡ a + suc k = omega arith in
    ap (numbers_from a) e ∙ ap (λ l. a ∷ l) (from-append (suc a) k m ∙ ap (λ b. numbers_from (suc a) k ++ numbers_from b m) f)

-- the groups that were opened on the way have these numbers
record Adds (p : Cursor) (xs : List ℕ) (q : Cursor) : Type 0 where
  count : ℕ
  names : length q.names ≡ length p.names + count
  are : xs ≡ numbers_from (suc (length p.names)) count

adds-none : (p q : Cursor) → length q.names ≡ length p.names → Adds p [] q
adds-none p q e = record { count = 0; names = omega arith; are = refl }

adds-join : (p q r : Cursor) (xs ys : List ℕ) → Adds p xs q → Adds q ys r → Adds p (xs ++ ys) r
adds-join p q r xs ys a b =
    let m = a.names in
    let n = b.names in
    let e : suc (length q.names) ≡ suc (length p.names) + a.count = omega arith in
    record {
      count = a.count + b.count;
      names = omega arith;
      are = ap (λ l. l ++ ys) a.are ∙ ap (λ l. numbers_from (suc (length p.names)) a.count ++ l) (b.are ∙ ap (λ k. numbers_from k b.count) e)
          ∙ sym (from-append (suc (length p.names)) a.count b.count);
    }

adds-open : (p q r : Cursor) (xs : List ℕ) → length q.names ≡ suc (length p.names) → Adds q xs r → Adds p (suc (length p.names) ∷ xs) r
adds-open p q r xs e a =
    let m = a.names in
    record {
      count = suc a.count;
      names = omega arith;
      are = ap (λ l. suc (length p.names) ∷ l) (a.are ∙ ap (λ k. numbers_from (suc k) a.count) e);
    }

adds-from : (p q r : Cursor) (xs : List ℕ) → length q.names ≡ length p.names → Adds q xs r → Adds p xs r
adds-from p q r xs e a = adds-join p q r [] xs (adds-none p q e) a

adds-to : (p q r : Cursor) (xs : List ℕ) → length r.names ≡ length q.names → Adds p xs q → Adds p xs r
adds-to p q r xs e a = let m = a.names in record { count = a.count; names = omega arith; are = a.are }

-- quantifiers
record Keeps (a : Tree) (p : Cursor) (x : Tree × Cursor) : Type 0 where
  tree : numbers x.0 ≡ numbers a
  names : length x.1.names ≡ length p.names

passed-names : (p : Cursor) → Gives (λ q. length q.names ≡ length p.names) (passed p)
unfolding passed
passed-names p = by_text (pass p.flags.spaced between p.text)
  where
    by_text : (found : Option Text) → Gives (λ (q : Cursor). length q.names ≡ length p.names) (option_map (λ t. record p { text = t }) found)
    by_text None = gives-none _
    by_text (Some t) = gives-some _ _ refl

tree_if : {A : Type 0} (b : Bool) (x y : Tree × A) (xs : List ℕ) → numbers x.0 ≡ xs → numbers y.0 ≡ xs → numbers (if b then x else y).0 ≡ xs
tree_if true x y xs e f = e
tree_if false x y xs e f = f

loop-numbers : (q : Quantifier) (a : Tree) (t : Text) → numbers (loop q a t).0 ≡ numbers a
unfolding loop
loop-numbers q a t =
    tree_if (begins "?" t) (repeat false q.least q.most a, drop 1 t) (if q.short && begins "+" t then (atomic (repeat true q.least q.most a), drop 1 t) else (repeat true q.least q.most a, t)) (numbers a) refl
    (tree_if (q.short && begins "+" t) (atomic (repeat true q.least q.most a), drop 1 t) (repeat true q.least q.most a, t) (numbers a) refl refl)

looped-keeps : (a : Tree) (p : Cursor) (found : Option (Quantifier × Text)) → Gives (Keeps a p) (looped a p found)
looped-keeps a p None = gives-some (Keeps a p) (a, p) (record { tree = refl; names = refl })
looped-keeps a p (Some x) =
    gives-guard (Keeps a p) (is_allowed x.0.least x.0.most) _
    (gives-some (Keeps a p) ((loop x.0 a x.1).0, record p { text = (loop x.0 a x.1).1 }) (record { tree = loop-numbers x.0 a x.1; names = refl }))

quantified-keeps : (a : Tree) (p : Cursor) → Gives (Keeps a p) (quantified a p)
unfolding quantified
quantified-keeps a p =
    gives-bind (Keeps a p) (passed p) (λ here. looped a here (quantifier here.text)) (λ here q. record {
      fits = λ x u.
          let k = (looped-keeps a here (quantifier here.text)).fits x u in
          record { tree = k.tree; names = k.names ∙ (passed-names p).fits here q };
    })

-- openings: what is opened inside, and the group itself, is opened on the way
abbrev Opens : Cursor → GroupOpening × Cursor → Type 0
Opens p (setting, q) = length q.names ≡ length p.names
Opens p (opens make, q) = (a : Tree) (r : Cursor) → Adds q (numbers a) r → Adds p (numbers (make a)) r

length-last : {A : Type 0} (xs : List A) (x : A) → length (xs ++ x ∷ []) ≡ suc (length xs)
length-last [] x = refl
length-last (y ∷ xs) x = ap suc (length-last xs x)

numbered-opens : (found : Option Text) (p q : Cursor) → q.names ≡ p.names → Opens p (numbered found q)
numbered-opens found p q e = λ a r n.
    let k : length q.names ≡ length p.names = ap length e in
    subst (λ m. Adds p (m ∷ numbers a) r) (ap suc (sym k))
    (adds-open p (record q { names = q.names ++ found ∷ [] }) r (numbers a) (length-last q.names found ∙ ap suc k) n)

plain-opens : (make : Tree → Tree) (p q : Cursor) → ((a : Tree) → numbers (make a) ≡ numbers a) → q.names ≡ p.names → Opens p (opens make, q)
plain-opens make p q stays e = λ a r n. subst (λ xs. Adds p xs r) (sym (stays a)) (adds-from p q r (numbers a) (ap length e) n)

named_group-opens : (p q : Cursor) → q.names ≡ p.names → Gives (Opens p) (named_group q)
unfolding named_group
named_group-opens p q e =
    gives-bind (Opens p) (name_in q.text) _ (λ x u.
    gives-guard (Opens p) (not (list_any (has_name x.0) q.names)) (Some (numbered (Some x.0) (record q { text = x.1 })))
    (gives-some (Opens p) (numbered (Some x.0) (record q { text = x.1 })) (numbered-opens (Some x.0) p (record q { text = x.1 }) e)))

flag-opens : (p q : Cursor) (b : Bool) → q.names ≡ p.names → Opens p (if b then setting else opens (λ a. a), q)
flag-opens p q true e = ap length e
flag-opens p q false e = plain-opens (λ a. a) p q (λ a. refl) e

flag_group-opens : (p q : Cursor) → q.names ≡ p.names → Gives (Opens p) (flag_group q)
unfolding flag_group
flag_group-opens p q e =
    gives-bind (Opens p) (flags_at q.flags q.text) _ (λ x u.
    gives-guard (Opens p) (begins ":" x.1 || begins ")" x.1) (Some (if begins ")" x.1 then setting else opens (λ a. a), record q { flags = x.0; text = drop 1 x.1 }))
    (gives-some (Opens p) (if begins ")" x.1 then setting else opens (λ a. a), record q { flags = x.0; text = drop 1 x.1 }) (flag-opens p (record q { flags = x.0; text = drop 1 x.1 }) (begins ")" x.1) e)))

opening-opens : (p : Cursor) → Gives (Opens p) (opening p)
unfolding opening
opening-opens p =
    let t = p.text in
    gives-if (Opens p) (not (begins "?" t)) _ _ (gives-some (Opens p) (numbered None p) (numbered-opens None p p refl))
    (gives-if (Opens p) (begins "?:" t) _ _ (gives-some (Opens p) (opens (λ a. a), forward 2 p) (plain-opens (λ a. a) p (forward 2 p) (λ a. refl) refl))
    (gives-if (Opens p) (begins "?>" t) _ _ (gives-some (Opens p) (opens atomic, forward 2 p) (plain-opens atomic p (forward 2 p) (λ a. refl) refl))
    (gives-if (Opens p) (begins "?=" t) _ _ (gives-some (Opens p) (opens (ahead false), forward 2 p) (plain-opens (ahead false) p (forward 2 p) (λ a. refl) refl))
    (gives-if (Opens p) (begins "?!" t) _ _ (gives-some (Opens p) (opens (ahead true), forward 2 p) (plain-opens (ahead true) p (forward 2 p) (λ a. refl) refl))
    (gives-if (Opens p) (begins "?<=" t) _ _ (gives-some (Opens p) (opens (behind false), forward 3 p) (plain-opens (behind false) p (forward 3 p) (λ a. refl) refl))
    (gives-if (Opens p) (begins "?<!" t) _ _ (gives-some (Opens p) (opens (behind true), forward 3 p) (plain-opens (behind true) p (forward 3 p) (λ a. refl) refl))
    (gives-if (Opens p) (begins "?P<" t) _ _ (named_group-opens p (forward 3 p) refl)
    (gives-if (Opens p) (begins "?<" t) _ _ (named_group-opens p (forward 2 p) refl)
    (flag_group-opens p (forward 1 p) refl)))))))))

-- the numbers of what is read of a group
abbrev body_numbers : Body → List ℕ
body_numbers b = all_numbers b.before ++ all_numbers b.items

-- more was read from the place on
record Reads (b : Body) (p : Cursor) (xs : List ℕ) (q : Cursor) : Type 0 where
  more : List ℕ
  are : xs ≡ body_numbers b ++ more
  adds : Adds p more q

abbrev Steps : Body → Cursor → Step → Type 0
Steps b p (over q) = length q.names ≡ length p.names
Steps b p (on c q) = Reads b p (body_numbers c) q

numbers-with_item : (b : Body) (a : Tree) → body_numbers (with_item b a) ≡ body_numbers b ++ numbers a
numbers-with_item b a =
    ap (λ l. all_numbers b.before ++ l) (all_numbers-append b.items (a ∷ []) ∙ ap (λ l. all_numbers b.items ++ l) (append-nil (numbers a)))
    ∙ sym (append-append (all_numbers b.before) (all_numbers b.items) (numbers a))

numbers-before : (b : Body) → all_numbers (next_alternative b).before ≡ body_numbers b
numbers-before b =
    all_numbers-append b.before (seq_all b.items ∷ []) ∙ ap (λ l. all_numbers b.before ++ l) (append-nil (numbers (seq_all b.items)) ∙ numbers-seq_all b.items)

item-steps : (known : Option Names) (b : Body) (a : Tree) (p q : Cursor) → Adds p (numbers a) q → Gives (Steps b p) (item known b a q)
item-steps known b a p q n =
    gives-bind (Steps b p) (quantified a q) (λ (x : Tree × Cursor). Some (on (with_item b x.0) x.1)) (λ x u.
    let k = (quantified-keeps a q).fits x u in
    gives-some (Steps b p) (on (with_item b x.0) x.1) (record {
      more = numbers a;
      are = numbers-with_item b x.0 ∙ ap (λ l. body_numbers b ++ l) k.tree;
      adds = adds-to p q x.1 (numbers a) k.names n;
    }))

firm-steps : (known : Option Names) (b : Body) (a : Tree) (p q : Cursor) → Adds p (numbers a) q → Gives (Steps b p) (firm known b a q)
firm-steps known b a p q n = gives-some (Steps b p) (on (with_item b a) q) (record { more = numbers a; are = numbers-with_item b a; adds = n })

number-none : (known : Option Names) (fold : Bool) (n : ℕ) → Gives (λ a. numbers a ≡ []) (by_number known fold n)
number-none None fold n = gives-some _ nothing refl
number-none (Some names) fold n = gives-guard _ (nat_le n (length names)) _ (gives-some _ (same fold n) refl)

name-none : (known : Option Names) (fold : Bool) (t : Text) → Gives (λ a. numbers a ≡ []) (by_name known fold t)
name-none None fold t = gives-some _ nothing refl
name-none (Some names) fold t = by_found (number_of t names)
  where
    by_found : (found : Option ℕ) → Gives (λ a. numbers a ≡ []) (option_map (same fold) found)
    by_found None = gives-none _
    by_found (Some n) = gives-some _ (same fold n) refl

escaped-steps : (known : Option Names) (b : Body) (p q : Cursor) (e : Escape) → length q.names ≡ length p.names → Gives (Steps b p) (escaped known b q e)
escaped-steps known b p q (char c) h = item-steps known b (one_of (from_to q.flags.fold c c)) p q (adds-none p q h)
escaped-steps known b p q (set a) h = item-steps known b (one_of a) p q (adds-none p q h)
escaped-steps known b p q (edge a) h = firm-steps known b (anchor a) p q (adds-none p q h)
escaped-steps known b p q (number k) h =
    gives-bind (Steps b p) (by_number known q.flags.fold k) (λ a. item known b a q) (λ a u.
    item-steps known b a p q (subst (λ xs. Adds p xs q) (sym ((number-none known q.flags.fold k).fits a u)) (adds-none p q h)))
escaped-steps known b p q (name t) h =
    gives-bind (Steps b p) (by_name known q.flags.fold t) (λ a. item known b a q) (λ a u.
    item-steps known b a p q (subst (λ xs. Adds p xs q) (sym ((name-none known q.flags.fold t).fits a u)) (adds-none p q h)))

module _ (known : Option Names) (inner : Cursor → Option (Tree × Cursor)) (reads : (p : Cursor) → Gives (λ x. Adds p (numbers x.0) x.1) (inner p)) where
  grouped-steps : (depth : ℕ) (b : Body) (flags : Flags) (p : Cursor) (o : GroupOpening) (q : Cursor) → Opens p (o, q) → Gives (Steps b p) (grouped known inner depth b flags (o, q))
  grouped-steps depth b flags p setting q h =
      gives-some (Steps b p) (on b q) (record { more = []; are = sym (append-nil (body_numbers b)); adds = adds-none p q h })
  grouped-steps depth b flags p (opens make) q h =
      gives-guard (Steps b p) (nat_lt depth deepest)
      (inner q >>= λ (a, last). begins ")" last.text >> item known b (make a) (record last { flags = flags; text = drop 1 last.text }))
      (gives-bind (Steps b p) (inner q) (λ (x : Tree × Cursor). begins ")" x.1.text >> item known b (make x.0) (record (x.1) { flags = flags; text = drop 1 x.1.text })) (λ x u.
      let after : Cursor = record (x.1) { flags = flags; text = drop 1 x.1.text } in
      gives-guard (Steps b p) (begins ")" x.1.text) (item known b (make x.0) after)
      (item-steps known b (make x.0) p after (adds-to p x.1 after (numbers (make x.0)) refl (h x.0 x.1 ((reads q).fits x u))))))

  step-steps : (depth : ℕ) (b : Body) (p : Cursor) (nx : Next) → Gives (Steps b p) (step known inner depth b p nx)
  step-steps depth b p end = gives-some (Steps b p) (over p) refl
  step-steps depth b p closer = gives-some (Steps b p) (over p) refl
  step-steps depth b p bar =
      gives-some (Steps b p) (on (next_alternative b) (forward 1 p)) (record {
        more = [];
        are = ap (λ l. l ++ []) (numbers-before b);
        adds = adds-none p (forward 1 p) refl;
      })
  step-steps depth b p loops = gives-none (Steps b p)
  step-steps depth b p opener =
      gives-bind (Steps b p) (opening (forward 1 p)) (grouped known inner depth b p.flags) (λ x u.
      grouped-steps depth b p.flags p x.0 x.1 (opens-from x.0 x.1 ((opening-opens (forward 1 p)).fits x u)))
    where
      opens-from : (o : GroupOpening) (q : Cursor) → Opens (forward 1 p) (o, q) → Opens p (o, q)
      opens-from setting q h = h
      opens-from (opens make) q h = λ a r n. adds-from p (forward 1 p) r (numbers (make a)) refl (h a r n)
  step-steps depth b p bracket =
      gives-bind (Steps b p) (class p.flags.fold depth (drop 1 p.text)) (λ (x : Set × Text). item known b (one_of x.0) (record p { text = x.1 })) (λ x u.
      item-steps known b (one_of x.0) p (record p { text = x.1 }) (adds-none p (record p { text = x.1 }) refl))
  step-steps depth b p backslash =
      gives-bind (Steps b p) (escape (drop 1 p.text)) (λ (x : Escape × Text). escaped known b (record p { text = x.1 }) x.0) (λ x u.
      escaped-steps known b p (record p { text = x.1 }) x.0 refl)
  step-steps depth b p dot = item-steps known b (one_of (dot_set p.flags.any)) p (forward 1 p) (adds-none p (forward 1 p) refl)
  step-steps depth b p caret = firm-steps known b (anchor Anchor.LineStart) p (forward 1 p) (adds-none p (forward 1 p) refl)
  step-steps depth b p dollar = firm-steps known b (anchor Anchor.LineEnd) p (forward 1 p) (adds-none p (forward 1 p) refl)
  step-steps depth b p (plain c) = item-steps known b (one_of (from_to p.flags.fold c c)) p (forward 1 p) (adds-none p (forward 1 p) refl)

abbrev ReadsBody : Body → Cursor → Tree × Cursor → Type 0
ReadsBody b p x = Reads b p (numbers x.0) x.1

after-reads : (known : Option Names) (more : Body → Cursor → Option (Tree × Cursor)) (b : Body) (p : Cursor) (s : Step)
    → ((c : Body) (q : Cursor) → Gives (ReadsBody c q) (more c q)) → Steps b p s → Gives (ReadsBody b p) (after_step known more b s)
after-reads known more b p (over q) e h =
    gives-some (ReadsBody b p) (tree_of_body b, q) (record {
      more = [];
      are = numbers-alt_all (next_alternative b).before ∙ numbers-before b ∙ sym (append-nil (body_numbers b));
      adds = adds-none p q h;
    })
after-reads known more b p (on c q) e h = record {
  fits = λ x u.
      let r = (e c q).fits x u in
      record {
        more = h.more ++ r.more;
        are = r.are ∙ ap (λ l. l ++ r.more) h.are ∙ append-append (body_numbers b) h.more r.more;
        adds = adds-join p q x.1 h.more r.more h.adds r.adds;
      };
}

body-reads : (known : Option Names) (n depth : ℕ) (b : Body) (p : Cursor) → Gives (ReadsBody b p) (body known n depth b p)
unfolding body
body-reads known zero depth b p = gives-none (ReadsBody b p)
body-reads known (suc n) depth b p =
    let inner = body known n (depth + 1) empty_body in
    let reads : (q : Cursor) → Gives (λ x. Adds q (numbers x.0) x.1) (inner q) = λ q. record {
      fits = λ x u.
          let r = (body-reads known n (depth + 1) empty_body q).fits x u in subst (λ xs. Adds q xs x.1) (sym r.are) r.adds;
    } in
    gives-bind (ReadsBody b p) (passed p) (λ here. step known inner depth b here (next_of here.text) >>= after_step known (body known n depth) b) (λ here u.
    gives-bind (ReadsBody b p) (step known inner depth b here (next_of here.text)) (after_step known (body known n depth) b) (λ s v.
    record {
      fits = λ x w.
          let r = (after-reads known (body known n depth) b here s (body-reads known n depth) ((step-steps known inner reads depth b here (next_of here.text)).fits s v)).fits x w in
          record { more = r.more; are = r.are; adds = adds-from p here x.1 r.more ((passed-names p).fits here u) r.adds };
    }))

length-append : {A : Type 0} (xs ys : List A) → length (xs ++ ys) ≡ length xs + length ys
length-append [] ys = let e : zero + length ys ≡ length ys = omega arith in sym e
length-append (x ∷ xs) ys = let e = length-append xs ys in omega arith

length-numbers : (t : Tree) → length (numbers t) ≡ group_count t
length-numbers nothing = refl
length-numbers (one_of s) = refl
length-numbers (anchor a) = refl
length-numbers (same f n) = refl
length-numbers (seq a b) = let e = length-numbers a in let f = length-numbers b in let k = length-append (numbers a) (numbers b) in omega arith
length-numbers (alt a b) = let e = length-numbers a in let f = length-numbers b in let k = length-append (numbers a) (numbers b) in omega arith
length-numbers (repeat g l m a) = length-numbers a
length-numbers (group n a) = let e = length-numbers a in omega arith
length-numbers (atomic a) = length-numbers a
length-numbers (ahead n a) = length-numbers a
length-numbers (behind n a) = length-numbers a

length-from : (a n : ℕ) → length (numbers_from a n) ≡ n
length-from a zero = refl
length-from a (suc n) = ap suc (length-from (suc a) n)

numbers-whole : (known : Option Names) (text : Text) → Gives (λ x. numbers x.0 ≡ numbers_from 1 (group_count x.0)) (whole known text)
unfolding whole
numbers-whole known text =
    let start : Cursor = record { flags = record { fold = false; any = false; spaced = false }; names = []; text = text } in
    gives-bind _ (body known (suc (length text)) 0 empty_body start) _ (λ x u.
    let r = (body-reads known (suc (length text)) 0 empty_body start).fits x u in
    let e : numbers x.0 ≡ numbers_from 1 r.adds.count = r.are ∙ r.adds.are in
    let k : group_count x.0 ≡ r.adds.count = sym (length-numbers x.0) ∙ ap length e ∙ length-from 1 r.adds.count in
    gives-guard _ (is_empty x.1.text) (Some (x.0, x.1.names)) (gives-some _ (x.0, x.1.names) (e ∙ ap (numbers_from 1) (sym k))))

pub numbers_groups : NumbersGroups
unfolding tree_of
numbers_groups text tree q = (reads text).fits tree q
  where
    reads : (text : Text) → Gives (λ t. numbers t ≡ numbers_from 1 (group_count t)) (tree_of text)
    reads text =
        gives-bind _ (whole None text) _ (λ x u.
        gives-bind _ (whole (Some x.1) text) _ (λ y v.
        gives-some _ y.0 ((numbers-whole (Some x.1) text).fits y v)))

-- there are as many groups as were opened
counts-whole : (known : Option Names) (text : Text) → Gives (λ x. group_count x.0 ≡ length x.1) (whole known text)
unfolding whole
counts-whole known text =
    let start : Cursor = record { flags = record { fold = false; any = false; spaced = false }; names = []; text = text } in
    gives-bind _ (body known (suc (length text)) 0 empty_body start) _ (λ x u.
    let r = (body-reads known (suc (length text)) 0 empty_body start).fits x u in
    let e : numbers x.0 ≡ numbers_from 1 r.adds.count = r.are ∙ r.adds.are in
    let k : group_count x.0 ≡ r.adds.count = sym (length-numbers x.0) ∙ ap length e ∙ length-from 1 r.adds.count in
    let n : length x.1.names ≡ 0 + r.adds.count = r.adds.names in
    let same : group_count x.0 ≡ length x.1.names = omega arith in
    gives-guard _ (is_empty x.1.text) (Some (x.0, x.1.names)) (gives-some _ (x.0, x.1.names) same))

pub counts_groups : (known : Option Names) (text : Text) (tree : Tree) (names : Names) → whole known text ≡ Some (tree, names) → group_count tree ≡ length names
counts_groups known text tree names e = (counts-whole known text).fits (tree, names) e
