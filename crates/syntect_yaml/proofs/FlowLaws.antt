-- Flow maps and lists, a part at a time.
use Rattle.std.proofs.Common.{◌≡◌, ℕ, zero, suc, ◌-◌, ◌<◌, true, false, ◌==◌, length, drop, Option, Some, None, refl, arith}
use Rattle.std.proofs.lemmas.Bool.Decides.{nat_tests}
use Rattle.syntect_yaml.specs.Node as node
use Rattle.syntect_yaml.specs.Node.{Node, Items, no_items, push_item, Entries, no_entries, push_entry, has_key}
use Rattle.syntect_yaml.specs.declared.value.Scalar.{Scalar}
use Rattle.syntect_yaml.specs.declared.error.Refusal.{Refusal}
use Rattle.syntect_yaml.specs.declared.error.Refusal.TheVariants.{At, Memory}
use Rattle.syntect_yaml.specs.Reading.{Fails}
use Rattle.syntect_yaml.specs.Lines.{Rest, Read, first}
use Rattle.syntect_yaml.specs.Scalars.{scalar, key}
use Rattle.syntect_yaml.specs.Flow.{read_map, gap, after_part, items, entry_value, entries, flow, opening_within}
use Rattle.syntect_yaml.specs.declared.flow.FlowOpening.TheVariants as opening

-- where one thing has no value neither has another
pub fails_by : {A B : Type 0} (e : Refusal) (a : Option A) (b : Option B) → (a ≡ None → b ≡ None) → Fails e a → Fails e b
fails_by (At left) a b h f = h f
fails_by Memory a b h f = tt

module _ (value : Rest → Read Node) where
  pub items_no_gap : (m : ℕ) (found : Items) (t : Rest) → 0 < m → gap t ≡ None → items value m found t ≡ None
  unfolding items
  items_no_gap zero found t room e = absurd (omega arith)
  items_no_gap (suc m) found t room e = rw e

  pub items_end : (m : ℕ) (found : Items) (t u : Rest) → 0 < m → gap t ≡ Some u → (first u == 93) ≡ true → items value m found t ≡ Some (found, drop 1 u)
  unfolding items
  items_end zero found t u room e f = absurd (omega arith)
  items_end (suc m) found t u room e f = rw (e, f)

  pub items_no_value : (m : ℕ) (found : Items) (t u : Rest) → 0 < m → gap t ≡ Some u → (first u == 93) ≡ false → value u ≡ None → items value m found t ≡ None
  unfolding items
  items_no_value zero found t u room e f g = absurd (omega arith)
  items_no_value (suc m) found t u room e f g = rw (e, f, g)

  pub items_no_end : (m : ℕ) (found : Items) (t u : Rest) (v : Node) (r : Rest) → 0 < m → gap t ≡ Some u → (first u == 93) ≡ false → value u ≡ Some (v, r) → after_part 93 r ≡ None
      → items value m found t ≡ None
  unfolding items
  items_no_end zero found t u v r room e f g h = absurd (omega arith)
  items_no_end (suc m) found t u v r room e f g h = rw (e, f, g, h)

  pub items_more : (m : ℕ) (found : Items) (t u : Rest) (v : Node) (r w : Rest) → 0 < m → gap t ≡ Some u → (first u == 93) ≡ false → value u ≡ Some (v, r) → after_part 93 r ≡ Some w
      → items value m found t ≡ items value (m - 1) (push_item found v) w
  unfolding items
  items_more zero found t u v r w room e f g h = absurd (omega arith)
  items_more (suc m) found t u v r w room e f g h = let less : suc m - 1 ≡ m = omega arith in rw (e, f, g, h, less)

  pub entries_no_gap : (m : ℕ) (found : Entries) (t : Rest) → 0 < m → gap t ≡ None → entries value m found t ≡ None
  unfolding entries
  entries_no_gap zero found t room e = absurd (omega arith)
  entries_no_gap (suc m) found t room e = rw e

  pub entries_end : (m : ℕ) (found : Entries) (t u : Rest) → 0 < m → gap t ≡ Some u → (first u == 125) ≡ true → entries value m found t ≡ Some (found, drop 1 u)
  unfolding entries
  entries_end zero found t u room e f = absurd (omega arith)
  entries_end (suc m) found t u room e f = rw (e, f)

  pub entries_no_key : (m : ℕ) (found : Entries) (t u : Rest) → 0 < m → gap t ≡ Some u → (first u == 125) ≡ false → key true u ≡ None → entries value m found t ≡ None
  unfolding entries
  entries_no_key zero found t u room e f g = absurd (omega arith)
  entries_no_key (suc m) found t u room e f g = rw (e, f, g)

  pub entries_twice : (m : ℕ) (found : Entries) (t u : Rest) (k : Scalar) (b : Rest) → 0 < m → gap t ≡ Some u → (first u == 125) ≡ false → key true u ≡ Some (k, b) → has_key k found ≡ true
      → entries value m found t ≡ None
  unfolding entries
  entries_twice zero found t u k b room e f g h = absurd (omega arith)
  entries_twice (suc m) found t u k b room e f g h = rw (e, f, g, h)

  pub entries_no_value : (m : ℕ) (found : Entries) (t u : Rest) (k : Scalar) (b : Rest) → 0 < m → gap t ≡ Some u → (first u == 125) ≡ false → key true u ≡ Some (k, b) → has_key k found ≡ false
      → entry_value value b ≡ None → entries value m found t ≡ None
  unfolding entries
  entries_no_value zero found t u k b room e f g h i = absurd (omega arith)
  entries_no_value (suc m) found t u k b room e f g h i = rw (e, f, g, h, i)

  pub entries_no_end : (m : ℕ) (found : Entries) (t u : Rest) (k : Scalar) (b : Rest) (v : Node) (r : Rest) → 0 < m → gap t ≡ Some u → (first u == 125) ≡ false → key true u ≡ Some (k, b) → has_key k found ≡ false
      → entry_value value b ≡ Some (v, r) → after_part 125 r ≡ None → entries value m found t ≡ None
  unfolding entries
  entries_no_end zero found t u k b v r room e f g h i j = absurd (omega arith)
  entries_no_end (suc m) found t u k b v r room e f g h i j = rw (e, f, g, h, i, j)

  pub entries_more : (m : ℕ) (found : Entries) (t u : Rest) (k : Scalar) (b : Rest) (v : Node) (r w : Rest) → 0 < m → gap t ≡ Some u → (first u == 125) ≡ false → key true u ≡ Some (k, b) → has_key k found ≡ false
      → entry_value value b ≡ Some (v, r) → after_part 125 r ≡ Some w → entries value m found t ≡ entries value (m - 1) (push_entry found k v) w
  unfolding entries
  entries_more zero found t u k b v r w room e f g h i j = absurd (omega arith)
  entries_more (suc m) found t u k b v r w room e f g h i j = let less : suc m - 1 ≡ m = omega arith in rw (e, f, g, h, i, j, less)

pub flow_list : (depth : ℕ) (t : Rest) → opening_within depth t ≡ opening.List → (0 < depth) × (first t ≡ 91) × (flow depth t ≡ read_map node.list (items (flow (depth - 1)) (length t) no_items (drop 1 t)))
unfolding flow
flow_list zero t e = absurd (grind arith)
flow_list (suc depth) t e = let less : suc depth - 1 ≡ depth = omega arith in (omega arith, grind (arith, nat_tests), rw (e, less))

pub flow_map : (depth : ℕ) (t : Rest) → opening_within depth t ≡ opening.Map → (0 < depth) × (first t ≡ 123) × (flow depth t ≡ read_map node.map (entries (flow (depth - 1)) (length t) no_entries (drop 1 t)))
unfolding flow
flow_map zero t e = absurd (grind arith)
flow_map (suc depth) t e = let less : suc depth - 1 ≡ depth = omega arith in (omega arith, grind (arith, nat_tests), rw (e, less))

pub flow_scalar : (depth : ℕ) (t : Rest) → opening_within depth t ≡ opening.Nothing → flow depth t ≡ read_map node.scalar (scalar true t)
unfolding flow
flow_scalar zero t e = refl
flow_scalar (suc depth) t e = rw e
