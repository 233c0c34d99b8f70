use Rattle.std.proofs.Common.{◌≡◌, ℕ, ap, sym, ◌∙◌}
use Rattle.std.specs.Hash.{le_bytes}
use Rattle.syntect_scope.specs.Packing.{high_of, low_of, high_back, low_back}
use Rattle.syntect_scope.proofs.scope.ScopeHash.hash.Goals as goal

pub returns : goal.returns
returns g c =
    let high : c.self.inside.high ≡ high_of c.args.self.now = sym (high_back c.self.inside.high c.self.inside.low c.self.invariant.0 c.self.invariant.2) ∙ ap high_of c.self.view_is in
    let low : c.self.inside.low ≡ low_of c.args.self.now = sym (low_back c.self.inside.high c.self.inside.low c.self.invariant.1 c.self.invariant.2) ∙ ap low_of c.self.view_is in
    c.hash-2.ensures ∙ ap (λ s. g.H.Hasher.write s (le_bytes 8 c.self.inside.low)) c.hash.ensures
    ∙ ap (λ (n : ℕ). g.H.Hasher.write (g.H.Hasher.write c.args.state.now (le_bytes 8 n)) (le_bytes 8 c.self.inside.low)) high
    ∙ ap (λ (n : ℕ). g.H.Hasher.write (g.H.Hasher.write c.args.state.now (le_bytes 8 (high_of c.args.self.now))) (le_bytes 8 n)) low
