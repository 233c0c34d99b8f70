-- The marks of a line follow its operations.
use Rattle.std.proofs.Common.{◌≡◌, ℕ, zero, suc, ◌+◌, ◌-◌, ◌≤◌, false, List, [], ◌∷◌, ◌++◌, length, take, drop, map, replicate, refl, sym, ap, subst, ◌∙◌, append-nil, append_assoc, arith, inl, inr, min, length-append}
use Rattle.std.specs.Prelude.{nat_lt}
use Rattle.std.proofs.lemmas.Bool.{cases_Bool}
use Rattle.std.proofs.lemmas.Bool.Decides.{nat_tests}
use Rattle.std.proofs.lemmas.List.{length-take, length-drop, take-take}
use Rattle.syntect_writers.specs.Marks.{Mark, marks, operation_marks, words_between, stack_after}
use Rattle.syntect_writers.specs.Marks.Mark.{Begin, End, Words}
use Rattle.syntect_writers.proofs.PutLaws.{marks_added, marks_removed, marks_cleared}
use Rattle.syntect_writers.specs.Laws.{Follows}
use Rattle.syntect_writers.specs.Page.{open_behind, bytes_under, IsNested}
use Rattle.syntect_writers.specs.syntect_scope.Hook.{last_cleared}
use Rattle.syntect_writers.specs.syntect_scope.Replay.{InOrder, replay, bytes_to}
use Rattle.syntect_writers.specs.syntect_scope.Stack.{applied, kept}
use Rattle.syntect_writers.specs.syntect_scope.declared.stack.ClearAmount.{ClearAmount}
use Rattle.syntect_writers.specs.syntect_scope.declared.stack.ClearAmount.TheVariants.{TopN, All}
use Rattle.syntect_writers.specs.syntect_scope.declared.stack.ScopeStack.{ScopeStack}
use Rattle.syntect_writers.specs.syntect_scope.declared.stack.ScopeStackOp.{ScopeStackOp}
use Rattle.syntect_writers.specs.syntect_scope.declared.stack.ScopeStackOp.TheVariants.{Push, Pop, Clear, Restore, Noop}

-- ---- marks one after another ----

open_more : (scopes : List (List ℕ)) (ms ns : List Mark) → open_behind scopes (ms ++ ns) ≡ open_behind (open_behind scopes ms) ns
open_more scopes [] ns = refl
open_more scopes (Begin s ∷ ms) ns = open_more (scopes ++ s ∷ []) ms ns
open_more scopes (End ∷ ms) ns = open_more (take (length scopes - 1) scopes) ms ns
open_more scopes (Words t ∷ ms) ns = open_more scopes ms ns

bytes_more : (scopes : List (List ℕ)) (ms ns : List Mark) → bytes_under scopes (ms ++ ns) ≡ bytes_under scopes ms ++ bytes_under (open_behind scopes ms) ns
bytes_more scopes [] ns = refl
bytes_more scopes (Begin s ∷ ms) ns = bytes_more (scopes ++ s ∷ []) ms ns
bytes_more scopes (End ∷ ms) ns = bytes_more (take (length scopes - 1) scopes) ms ns
bytes_more scopes (Words t ∷ ms) ns =
    ap (λ (l : List (ℕ × List (List ℕ))). map (λ b. (b, scopes)) t ++ l) (bytes_more scopes ms ns)
    ∙ sym (append_assoc (map (λ b. (b, scopes)) t) (bytes_under scopes ms) (bytes_under (open_behind scopes ms) ns))

nested_more : (scopes : List (List ℕ)) (ms ns : List Mark) → IsNested scopes ms → IsNested (open_behind scopes ms) ns → IsNested scopes (ms ++ ns)
nested_more scopes [] ns h k = k
nested_more scopes (Begin s ∷ ms) ns h k = nested_more (scopes ++ s ∷ []) ms ns h k
nested_more scopes (End ∷ ms) ns h k = (h.0, nested_more (take (length scopes - 1) scopes) ms ns h.1 k)
nested_more scopes (Words t ∷ ms) ns h k = nested_more scopes ms ns h k

-- ---- an operation ----

-- marks that show nothing and leave these scopes open
record Turns (scopes : List (List ℕ)) (ms : List Mark) (after : List (List ℕ)) : Type 0 where
  nested : IsNested scopes ms
  left_open : open_behind scopes ms ≡ after
  silent : bytes_under scopes ms ≡ []

begins : (scopes more : List (List ℕ)) → Turns scopes (map Begin more) (scopes ++ more)
begins scopes [] = record { nested = tt; left_open = sym (append-nil scopes); silent = refl }
begins scopes (s ∷ more) =
    let rest : Turns (scopes ++ s ∷ []) (map Begin more) ((scopes ++ s ∷ []) ++ more) = begins (scopes ++ s ∷ []) more in
    record { nested = rest.nested; left_open = rest.left_open ∙ append_assoc scopes (s ∷ []) more; silent = rest.silent }

ends : (n : ℕ) (scopes : List (List ℕ)) → n ≤ length scopes → Turns scopes (replicate n End) (take (length scopes - n) scopes)
ends zero scopes h = record { nested = tt; left_open = sym (whole scopes); silent = refl }
  where
    whole : (xs : List (List ℕ)) → take (length xs - 0) xs ≡ xs
    whole xs = let z : length xs - 0 ≡ length xs = omega arith in rw z (all xs)
      where
        all : (ys : List (List ℕ)) → take (length ys) ys ≡ ys
        all [] = refl
        all (y ∷ ys) = ap (λ (l : List (List ℕ)). y ∷ l) (all ys)
ends (suc n) scopes h =
    let front : List (List ℕ) = take (length scopes - 1) scopes in
    let count : length front ≡ length scopes - 1 = omega (arith, length-take {A = List ℕ} (length scopes - 1) scopes) in
    let rest : Turns front (replicate n End) (take (length front - n) front) = ends n front (omega (arith, count, h)) in
    let short : length front - n ≤ length scopes - 1 = omega (arith, count) in
    let same : length front - n ≡ length scopes - suc n = omega (arith, count, h) in
    record {
      nested = (omega (arith, h), rest.nested);
      left_open = rest.left_open ∙ take-take (length front - n) (length scopes - 1) scopes short ∙ ap (λ (m : ℕ). take m scopes) same;
      silent = rest.silent;
    }

kept_within : (amount : ClearAmount) (s : ScopeStack) → kept amount s ≤ length s.scopes
kept_within (TopN n) s = omega arith
kept_within All s = omega arith

turns : (op : ScopeStackOp) (s : ScopeStack) → Turns s.scopes (operation_marks op s) (applied op s).scopes
turns (Push scope) s = subst (λ (ms : List Mark). Turns s.scopes ms (s.scopes ++ scope ∷ [])) (sym (marks_added s.scopes (scope ∷ []))) (begins s.scopes (scope ∷ []))
turns (Pop count) s =
    let n : ℕ = min count (length s.scopes) in
    let same : length s.scopes - n ≡ length s.scopes - count = omega arith in
    subst (λ (m : ℕ). Turns s.scopes (operation_marks (Pop count) s) (take m s.scopes)) same
    (subst (λ (ms : List Mark). Turns s.scopes ms (take (length s.scopes - n) s.scopes)) (sym (marks_removed n s.scopes)) (ends n s.scopes (omega arith)))
turns (Clear amount) s =
    let n : ℕ = length s.scopes - kept amount s in
    let same : length s.scopes - n ≡ kept amount s = omega (arith, kept_within amount s) in
    subst (λ (m : ℕ). Turns s.scopes (operation_marks (Clear amount) s) (take m s.scopes)) same
    (subst (λ (ms : List Mark). Turns s.scopes ms (take (length s.scopes - n) s.scopes)) (sym (marks_cleared n (take (kept amount s) s.scopes))) (ends n s.scopes (omega arith)))
turns Restore s = subst (λ (ms : List Mark). Turns s.scopes ms (s.scopes ++ last_cleared s)) (sym (marks_added s.scopes (last_cleared s))) (begins s.scopes (last_cleared s))
turns Noop s = record { nested = tt; left_open = refl; silent = refl }

-- ---- a line ----

bytes_of : List (ℕ × List (List ℕ)) → List ℕ
bytes_of ps = map (λ p. p.0) ps

scopes_of : List (ℕ × List (List ℕ)) → List (List (List ℕ))
scopes_of ps = map (λ p. p.1) ps

under_all : List (List ℕ) → List ℕ → List (ℕ × List (List ℕ))
under_all scopes text = map (λ b. (b, scopes)) text

bytes_both : (xs ys : List (ℕ × List (List ℕ))) → bytes_of (xs ++ ys) ≡ bytes_of xs ++ bytes_of ys
unfolding bytes_of
bytes_both [] ys = refl
bytes_both (x ∷ xs) ys = ap (λ (l : List ℕ). x.0 ∷ l) (bytes_both xs ys)

scopes_both : (xs ys : List (ℕ × List (List ℕ))) → scopes_of (xs ++ ys) ≡ scopes_of xs ++ scopes_of ys
unfolding scopes_of
scopes_both [] ys = refl
scopes_both (x ∷ xs) ys = ap (λ (l : List (List (List ℕ))). x.1 ∷ l) (scopes_both xs ys)

bytes_back : (scopes : List (List ℕ)) (text : List ℕ) → bytes_of (under_all scopes text) ≡ text
unfolding bytes_of under_all
bytes_back scopes [] = refl
bytes_back scopes (b ∷ text) = ap (λ (l : List ℕ). b ∷ l) (bytes_back scopes text)

scopes_back : (scopes : List (List ℕ)) (text : List ℕ) → scopes_of (under_all scopes text) ≡ replicate (length text) scopes
unfolding scopes_of under_all
scopes_back scopes [] = refl
scopes_back scopes (b ∷ text) = ap (λ (l : List (List (List ℕ))). scopes ∷ l) (scopes_back scopes text)

-- the part of a line between two places
part : List ℕ → ℕ → ℕ → List ℕ
part line from to = take (to - from) (drop from line)

record Between (line : List ℕ) (from to : ℕ) (scopes : List (List ℕ)) : Type 0 where
  nested : IsNested scopes (words_between line from to)
  left_open : open_behind scopes (words_between line from to) ≡ scopes
  bytes : bytes_under scopes (words_between line from to) ≡ under_all scopes (part line from to)

between : (line : List ℕ) (from to : ℕ) (scopes : List (List ℕ)) → from ≤ to → Between line from to scopes
unfolding part under_all
between line from to scopes h =
    elim (cases_Bool (nat_lt from to)) [
      | inl e ↦ record { nested = rw e tt; left_open = rw e refl; bytes = rw e (append-nil (map (λ b. (b, scopes)) (take (to - from) (drop from line)))) }
      | inr e ↦
          let z : to - from ≡ 0 = not_less from to e in
          record { nested = rw e tt; left_open = rw e refl; bytes = rw (e, z) refl }
    ]
  where
    not_less : (a b : ℕ) → nat_lt a b ≡ false → b - a ≡ 0
    not_less a b e = grind (arith, nat_tests)

drop_more : (n m : ℕ) (xs : List ℕ) → drop m (drop n xs) ≡ drop (n + m) xs
drop_more zero m xs = let z : 0 + m ≡ m = omega arith in rw z refl
drop_more (suc n) m [] = none m (suc n + m)
  where
    none : (i j : ℕ) → drop {A = ℕ} i [] ≡ drop {A = ℕ} j []
    none zero zero = refl
    none zero (suc j) = refl
    none (suc i) zero = refl
    none (suc i) (suc j) = refl
drop_more (suc n) m (x ∷ xs) = let z : suc n + m ≡ suc (n + m) = omega arith in rw z (drop_more n m xs)

join_parts : (n : ℕ) (xs : List ℕ) → take n xs ++ drop n xs ≡ xs
join_parts zero xs = refl
join_parts (suc n) [] = refl
join_parts (suc n) (x ∷ xs) = ap (λ (l : List ℕ). x ∷ l) (join_parts n xs)

joined : (line : List ℕ) (from to : ℕ) → from ≤ to → part line from to ++ drop to line ≡ drop from line
unfolding part
joined line from to h =
    let z : from + (to - from) ≡ to = omega (arith, h) in
    ap (λ (l : List ℕ). take (to - from) (drop from line) ++ l) (sym (drop_more from (to - from) line ∙ ap (λ (n : ℕ). drop n line) z)) ∙ join_parts (to - from) (drop from line)

last_part : (line : List ℕ) (from : ℕ) → part line from (length line) ≡ drop from line
unfolding part
last_part line from = ap (λ (n : ℕ). take n (drop from line)) (sym (length-drop from line)) ∙ whole (drop from line)
  where
    whole : (xs : List ℕ) → take (length xs) xs ≡ xs
    whole [] = refl
    whole (x ∷ xs) = ap (λ (l : List ℕ). x ∷ l) (whole xs)

part_length : (line : List ℕ) (from to : ℕ) → to ≤ length line → length (part line from to) ≡ to - from
unfolding part
part_length line from to h = omega (arith, length-take {A = ℕ} (to - from) (drop from line), length-drop from line, h)

within_line : (line : List ℕ) (from : ℕ) (ops : List (ℕ × ScopeStackOp)) (to : ℕ) → InOrder line from ops to → from ≤ to
within_line line from [] to h = h
within_line line from (o ∷ os) to h = omega (arith, h.0, within_line line o.0 os to h.2)

record FollowsFrom (line : List ℕ) (from : ℕ) (stack : ScopeStack) (ops : List (ℕ × ScopeStackOp)) (bytes : List (List (List ℕ))) : Type 0 where
  nested : IsNested stack.scopes (marks line from stack ops)
  left_open : open_behind stack.scopes (marks line from stack ops) ≡ (stack_after stack ops).scopes
  text : bytes_of (bytes_under stack.scopes (marks line from stack ops)) ≡ drop from line
  scopes : bytes ++ scopes_of (bytes_under stack.scopes (marks line from stack ops)) ≡ bytes_to (replay ops (record { bytes = bytes; stack = stack })) (length line)

follow_from : (line : List ℕ) (from : ℕ) (stack : ScopeStack) (ops : List (ℕ × ScopeStackOp)) (bytes : List (List (List ℕ))) → InOrder line from ops (length line) → length bytes ≡ from → FollowsFrom line from stack ops bytes
follow_from line from stack [] bytes h e =
    let here : Between line from (length line) stack.scopes = between line from (length line) stack.scopes h in
    let all : length (part line from (length line)) ≡ length line - length bytes = omega (arith, part_length line from (length line) (omega arith), e) in
    record {
      nested = here.nested;
      left_open = here.left_open;
      text = ap bytes_of here.bytes ∙ bytes_back stack.scopes (part line from (length line)) ∙ last_part line from;
      scopes =
          ap (λ (l : List (ℕ × List (List ℕ))). bytes ++ scopes_of l) here.bytes
          ∙ ap (λ (l : List (List (List ℕ))). bytes ++ l) (scopes_back stack.scopes (part line from (length line)) ∙ ap (λ (n : ℕ). replicate n stack.scopes) all);
    }
follow_from line from stack (o ∷ os) bytes h e =
    let end : o.0 ≤ length line = within_line line o.0 os (length line) h.2 in
    let here : Between line from o.0 stack.scopes = between line from o.0 stack.scopes h.0 in
    let turn : Turns stack.scopes (operation_marks o.1 stack) (applied o.1 stack).scopes = turns o.1 stack in
    let more : List (List (List ℕ)) = bytes ++ replicate (o.0 - length bytes) stack.scopes in
    let count : length more ≡ o.0 = omega (arith, length-append bytes (replicate (o.0 - length bytes) stack.scopes), replicated (o.0 - length bytes) stack.scopes, e, h.0) in
    let rest : FollowsFrom line o.0 (applied o.1 stack) os more = follow_from line o.0 (applied o.1 stack) os more h.2 count in
    let w : List Mark = words_between line from o.0 in
    let m : List Mark = operation_marks o.1 stack in
    let r : List Mark = marks line o.0 (applied o.1 stack) os in
    let p : List (ℕ × List (List ℕ)) = under_all stack.scopes (part line from o.0) in
    let left : List (ℕ × List (List ℕ)) = bytes_under (applied o.1 stack).scopes r in
    let whole : bytes_under stack.scopes (w ++ (m ++ r)) ≡ p ++ left =
    bytes_more stack.scopes w (m ++ r)
    ∙ ap (λ (l : List (ℕ × List (List ℕ))). l ++ bytes_under (open_behind stack.scopes w) (m ++ r)) here.bytes
    ∙ ap (λ (l : List (List ℕ)). p ++ bytes_under l (m ++ r)) here.left_open
    ∙ ap (λ (l : List (ℕ × List (List ℕ))). p ++ l)
    (bytes_more stack.scopes m r ∙ ap (λ (l : List (ℕ × List (List ℕ))). l ++ bytes_under (open_behind stack.scopes m) r) turn.silent
    ∙ ap (λ (l : List (List ℕ)). bytes_under l r) turn.left_open) in
    let size : length (part line from o.0) ≡ o.0 - length bytes = omega (arith, part_length line from o.0 end, e) in
    record {
      nested = nested_more stack.scopes w (m ++ r) here.nested (subst (λ (l : List (List ℕ)). IsNested l (m ++ r)) (sym here.left_open)
          (nested_more stack.scopes m r turn.nested (subst (λ (l : List (List ℕ)). IsNested l r) (sym turn.left_open) rest.nested)));
      left_open = open_more stack.scopes w (m ++ r) ∙ ap (λ (l : List (List ℕ)). open_behind l (m ++ r)) here.left_open ∙ open_more stack.scopes m r
          ∙ ap (λ (l : List (List ℕ)). open_behind l r) turn.left_open ∙ rest.left_open;
      text = ap bytes_of whole ∙ bytes_both p left ∙ ap (λ (l : List ℕ). l ++ bytes_of left) (bytes_back stack.scopes (part line from o.0))
          ∙ ap (λ (l : List ℕ). part line from o.0 ++ l) rest.text ∙ joined line from o.0 h.0;
      scopes = ap (λ (l : List (ℕ × List (List ℕ))). bytes ++ scopes_of l) whole
          ∙ ap (λ (l : List (List (List ℕ))). bytes ++ l) (scopes_both p left ∙ ap (λ (l : List (List (List ℕ))). l ++ scopes_of left) (scopes_back stack.scopes (part line from o.0) ∙ ap (λ (n : ℕ). replicate n stack.scopes) size))
          ∙ sym (append_assoc bytes (replicate (o.0 - length bytes) stack.scopes) (scopes_of left)) ∙ rest.scopes;
    }
  where
    replicated : (n : ℕ) (scopes : List (List ℕ)) → length (replicate n scopes) ≡ n
    replicated zero scopes = refl
    replicated (suc n) scopes = ap suc (replicated n scopes)

pub follows : (line : List ℕ) (stack : ScopeStack) (ops : List (ℕ × ScopeStackOp)) → InOrder line 0 ops (length line) → Follows line stack ops
unfolding bytes_of scopes_of
follows line stack ops h =
    let all : FollowsFrom line 0 stack ops [] = follow_from line 0 stack ops [] h refl in
    record { nested = all.nested; left_open = all.left_open; text = all.text; scopes = all.scopes }
