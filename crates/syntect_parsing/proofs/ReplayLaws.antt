-- Operations at a place.
use Rattle.std.proofs.Common.{◌≡◌, ℕ, zero, suc, ◌-◌, ◌+◌, ◌≤◌, List, [], ◌∷◌, ◌++◌, length, take, replicate, refl, sym, ap, ◌∙◌, arith, append_assoc, length-append}
use Rattle.std.proofs.lemmas.List.{append-nil, length-replicate}
use Rattle.syntect_parsing.specs.syntect_scope.Stack.{applied}
use Rattle.syntect_parsing.specs.syntect_scope.declared.stack.ScopeStack.{ScopeStack}
use Rattle.syntect_parsing.specs.syntect_scope.declared.stack.ScopeStackOp.{ScopeStackOp}
use Rattle.syntect_parsing.specs.syntect_scope.declared.stack.ScopeStackOp.TheVariants.{Push, Pop}
use Rattle.syntect_parsing.specs.Stacks.{IsAt, onto}
use Rattle.syntect_parsing.specs.syntect_scope.Replay.{Replay, replay, replayed, bytes_to, pushes, pops}

-- the same on a stack of these scopes that remembers these lists
abbrev pub At : List (List (List ℕ)) → Replay → ℕ → List (List (List ℕ)) → List (List ℕ) → Type 0
At mem r place bytes scopes = IsAt r place bytes (record { clear_stack = mem; scopes = scopes })

take_front : (st ss : List (List ℕ)) → take (length st) (st ++ ss) ≡ st
take_front [] ss = refl
take_front (s ∷ st) ss = ap (λ l. s ∷ l) (take_front st ss)

replicate_add : (m n : ℕ) (s : List (List ℕ)) → replicate (m + n) s ≡ replicate m s ++ replicate n s
replicate_add zero n s = let z : zero + n ≡ n = omega arith in rw z refl
replicate_add (suc m) n s = let z : suc m + n ≡ suc (m + n) = omega arith in rw z (ap (λ l. s ∷ l) (replicate_add m n s))

none_left : (b : List (List (List ℕ))) (i : ℕ) (s : List (List ℕ)) → length b ≡ i → b ++ replicate (i - length b) s ≡ b
none_left b i s e = let z : i - length b ≡ 0 = omega (arith, e) in rw z (append-nil b)

pub replay-append : (os ps : List (ℕ × ScopeStackOp)) (r : Replay) → replay (os ++ ps) r ≡ replay ps (replay os r)
replay-append [] ps r = refl
replay-append (o ∷ os) ps r = replay-append os ps (replayed r o)

pub at_op : (mem : List (List (List ℕ))) (r : Replay) (i : ℕ) (b : List (List (List ℕ))) (st st' : List (List ℕ)) (op : ScopeStackOp) → applied op (record { clear_stack = mem; scopes = st }) ≡ record { clear_stack = mem; scopes = st' } → At mem r i b st → At mem (replayed r (i, op)) i b st'
at_op mem r i b st st' op e h = record {
  before = rw h.before (none_left b i _ h.count);
  stack = rw h.stack e;
  count = h.count;
}

-- one operation on any stack
pub at_applied : (r : Replay) (i : ℕ) (b : List (List (List ℕ))) (t : ScopeStack) (op : ScopeStackOp) → IsAt r i b t → IsAt (replayed r (i, op)) i b (applied op t)
at_applied r i b t op h = record {
  before = rw h.before (none_left b i _ h.count);
  stack = ap (applied op) h.stack;
  count = h.count;
}

pub at_pushes : (mem : List (List (List ℕ))) (r : Replay) (i : ℕ) (b : List (List (List ℕ))) (st ss : List (List ℕ)) → At mem r i b st → At mem (replay (pushes i ss) r) i b (st ++ ss)
at_pushes mem r i b st [] h = rw (append-nil st) h
at_pushes mem r i b st (s ∷ ss) h =
    rw (← append_assoc st (s ∷ []) ss) (at_pushes mem (replayed r (i, Push s)) i b (st ++ s ∷ []) ss (at_op mem r i b st (st ++ s ∷ []) (Push s) refl h))

kept : (st ss : List (List ℕ)) (n : ℕ) → length ss ≡ n → take (length (st ++ ss) - n) (st ++ ss) ≡ st
kept st ss n e =
    let k : length (st ++ ss) - n ≡ length st = omega (arith, e, length-append st ss) in rw k (take_front st ss)

pub at_pops : (mem : List (List (List ℕ))) (r : Replay) (i n : ℕ) (b : List (List (List ℕ))) (st ss : List (List ℕ)) → length ss ≡ n → At mem r i b (st ++ ss) → At mem (replay (pops i n) r) i b st
at_pops mem r i zero b st [] e h = rw (append-nil st) at h
at_pops mem r i zero b st (s ∷ ss) e h = absurd (omega arith)
at_pops mem r i (suc n) b st ss e h = at_op mem r i b (st ++ ss) st (Pop (suc n)) (ap (λ (l : List (List ℕ)). record { clear_stack = mem; scopes = l }) (kept st ss (suc n) e)) h

moved_bytes : (mem : List (List (List ℕ))) (r : Replay) (i j : ℕ) (b : List (List (List ℕ))) (st : List (List ℕ)) → i ≤ j → At mem r i b st → bytes_to r j ≡ b ++ replicate (j - i) st
moved_bytes mem r i j b st l h =
    let n : length b ≡ length r.bytes + (i - length r.bytes) = ap length (sym h.before) ∙ length-append r.bytes _ ∙ ap (λ k. length r.bytes + k) (length-replicate _ _) in
    let e : j - length r.bytes ≡ (i - length r.bytes) + (j - i) = omega (arith, h.count) in
    rw (e, replicate_add (i - length r.bytes) (j - i) r.stack.scopes, ← append_assoc r.bytes (replicate (i - length r.bytes) r.stack.scopes) (replicate (j - i) r.stack.scopes)) (
    ap (λ (x : List (List (List ℕ))). x ++ replicate (j - i) r.stack.scopes) h.before ∙ ap (λ (x : ScopeStack). b ++ replicate (j - i) x.scopes) h.stack)

pub at_move : (mem : List (List (List ℕ))) (r : Replay) (i j : ℕ) (b : List (List (List ℕ))) (st : List (List ℕ)) → i ≤ j → At mem r i b st → At mem r j (b ++ replicate (j - i) st) st
at_move mem r i j b st l h = record {
  before = moved_bytes mem r i j b st l h;
  stack = h.stack;
  count = omega (arith, h.count, length-append b (replicate (j - i) st), length-replicate (j - i) st);
}

-- scopes pushed on any stack
pub at_onto : (r : Replay) (i : ℕ) (b : List (List (List ℕ))) (stack : ScopeStack) (ss : List (List ℕ)) → IsAt r i b stack → IsAt (replay (pushes i ss) r) i b (onto stack ss)
at_onto r i b stack ss h = at_pushes stack.clear_stack r i b stack.scopes ss h
