-- The laws of work.
use Rattle.std.proofs.Common.{◌≡◌, ℕ, zero, suc, ◌+◌, refl, ◌∙◌, ap, arith, Option, Some, None}
use Rattle.std.specs.Option.{option_or}
use Rattle.syntect_pattern_backtrack.specs.syntect_pattern.Matches.{Groups, Member}
use Rattle.syntect_pattern_backtrack.specs.declared.state.Bound.{Bound}
use Rattle.syntect_pattern_backtrack.specs.Machine.{Work, On, none, tick, both, outcome, bounded}

-- equal finds and equal counts
pub same_work : (f f' : Option Member) (m n : ℕ) → f ≡ f' → m ≡ n → (let w : Work = record { found = f; count = m } in w) ≡ record { found = f'; count = n }
same_work f f' m n e h = ap (λ (x : Option Member). (let w : Work = record { found = x; count = m } in w)) e ∙ ap (λ (x : ℕ). (let w : Work = record { found = f'; count = x } in w)) h

or_assoc : (a b c : Option Member) → option_or (option_or a b) c ≡ option_or a (option_or b c)
or_assoc None b c = refl
or_assoc (Some m) b c = refl

or_none : (a : Option Member) → option_or a None ≡ a
or_none None = refl
or_none (Some m) = refl

pub both-assoc : (w x y : Work) → both (both w x) y ≡ both w (both x y)
unfolding both
both-assoc w x y = same_work _ _ _ _ (or_assoc w.found x.found y.found) (omega arith)

pub both-tick : (w x : Work) → both (tick w) x ≡ tick (both w x)
unfolding both tick
both-tick w x = same_work _ _ _ _ refl (omega arith)

pub both-tick_right : (w x : Work) → both w (tick x) ≡ tick (both w x)
unfolding both tick
both-tick_right w x = same_work _ _ _ _ refl (omega arith)

pub both-none : (w : Work) → both none w ≡ w
unfolding both none
both-none w = same_work _ _ _ _ refl (omega arith)

pub both-none_right : (w : Work) → both w none ≡ w
unfolding both none
both-none_right w = same_work _ _ _ _ (or_none w.found) (omega arith)

pub bounded-tick : (b : Bound) (w : Work) (k : On) (i : ℕ) (g : Groups) → bounded b (tick w) k i g ≡ tick (bounded b w k i g)
unfolding bounded tick
bounded-tick b w k i g = same_work _ _ _ _ refl (omega arith)

-- a part without a match
pub bounded-none : (b : Bound) (k : On) (i : ℕ) (g : Groups) → bounded b none k i g ≡ outcome b None k i g
unfolding bounded none
bounded-none b k i g = same_work _ _ _ _ refl (omega arith)

-- n steps more
abbrev pub ticks : ℕ → Work → Work
ticks zero w = w
ticks (suc n) w = tick (ticks n w)

pub found-ticks : (n : ℕ) (w : Work) → (ticks n w).found ≡ w.found
unfolding tick
found-ticks zero w = refl
found-ticks (suc n) w = found-ticks n w

pub count-ticks : (n : ℕ) (w : Work) → (ticks n w).count ≡ w.count + n
unfolding tick
count-ticks zero w = omega arith
count-ticks (suc n) w = let h : (ticks n w).count ≡ w.count + n = count-ticks n w in omega arith
