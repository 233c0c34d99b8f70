use Rattle.std.proofs.Common.{◌≡◌, ◌+◌, length, take, ap, get_or, ◌∙◌, arith, Some}
use Rattle.syntect_style.specs.Kept.{IsKnown, scopes_of}
use Rattle.syntect_style.specs.Styling.{style_of, winners}
use Rattle.syntect_style.specs.declared.kept.Kept.{Kept}
use Rattle.syntect_theme.specs.Modifying.{restyled}
use Rattle.syntect_style.proofs.KeptLaws.{base_front, same_length, style_known, style_kept, scopes_set}
use Rattle.syntect_style.proofs.kept.KeptStyles.style.Goals as goal

pub returns-in-Some-clause-style : goal.returns-in-Some-clause-style
returns-in-Some-clause-style c = λ s h.
    let e : c.index-known.result.now ≡ get_or c.args.self.now c.args.place c.index-known.result.now = c.index-known.ensures ∙ ap (λ ks. get_or ks c.args.place c.index-known.result.now) c.self.view_is in
    let w : IsKnown c.args.highlighter.now c.args.stack.now c.index-known.result.now = style_known c.args.highlighter.now c.args.self.now c.args.place c.index-known.result.now c.index-known.result.now c.args.stack.now c.requires e s h in
    rw c.in-Some.is at w.style

pub returns-in_err-modifier-clause-known : goal.returns-in_err-modifier-clause-known
returns-in_err-modifier-clause-known c = λ s h.
    let e : c.index-known.result.now ≡ get_or c.args.self.now c.args.place c.index-known.result.now = c.index-known.ensures ∙ ap (λ ks. get_or ks c.args.place c.index-known.result.now) c.self.view_is in
    let w : IsKnown c.args.highlighter.now c.args.stack.now c.index-known.result.now = style_known c.args.highlighter.now c.args.self.now c.args.place c.index-known.result.now c.index-known.result.now c.args.stack.now c.requires e s h in
    c.in_err-modifier.ensures.known (base_front c.args.self.now (c.args.place + 1) c.index-known.result.now.base c.args.stack.now s w.base.within) h

pub returns-clause-scopes : goal.returns-clause-scopes
returns-clause-scopes c =
    let k : Kept = c.index_mut.result.now in
    let n : length c.modifier.new.self ≡ length c.args.self.now = same_length c.modifier.new.self c.args.self.now c.in_ok-modifier.ensures.scopes in
    let e : k ≡ get_or c.modifier.new.self c.args.place k = c.index_mut.ensures.value ∙ ap (λ ks. get_or ks c.args.place k) c.self-2.view_is in
    rw c.self-2.view_is (scopes_set c.modifier.new.self c.args.place (record k { style = Some c.apply-style.result }) k (omega (arith, n, c.requires)) (ap (λ (k : Kept). k.scope) e)) ∙ c.in_ok-modifier.ensures.scopes

pub returns-clause-style : goal.returns-clause-style
returns-clause-style c = λ s h.
    let e : c.index-known.result.now ≡ get_or c.args.self.now c.args.place c.index-known.result.now = c.index-known.ensures ∙ ap (λ ks. get_or ks c.args.place c.index-known.result.now) c.self.view_is in
    let w : IsKnown c.args.highlighter.now c.args.stack.now c.index-known.result.now = style_known c.args.highlighter.now c.args.self.now c.args.place c.index-known.result.now c.index-known.result.now c.args.stack.now c.requires e s h in
    let f : take c.index-known.result.now.base (scopes_of c.args.self.now) ≡ take c.index-known.result.now.base c.args.stack.now = base_front c.args.self.now (c.args.place + 1) c.index-known.result.now.base c.args.stack.now s w.base.within in
    c.apply-style.ensures ∙ ap (λ m. restyled m c.get_default.result) (c.in_ok-modifier.ensures.value f h w) ∙ ap (restyled (winners c.args.highlighter.now c.args.stack.now)) c.get_default.ensures

pub returns-clause-known : goal.returns-clause-known
returns-clause-known c = λ s h.
    let k : Kept = c.index_mut.result.now in
    let n : length c.modifier.new.self ≡ length c.args.self.now = same_length c.modifier.new.self c.args.self.now c.in_ok-modifier.ensures.scopes in
    let e : k ≡ get_or c.modifier.new.self c.args.place k = c.index_mut.ensures.value ∙ ap (λ ks. get_or ks c.args.place k) c.self-2.view_is in
    let d : c.index-known.result.now ≡ get_or c.args.self.now c.args.place c.index-known.result.now = c.index-known.ensures ∙ ap (λ ks. get_or ks c.args.place c.index-known.result.now) c.self.view_is in
    let w : IsKnown c.args.highlighter.now c.args.stack.now c.index-known.result.now = style_known c.args.highlighter.now c.args.self.now c.args.place c.index-known.result.now c.index-known.result.now c.args.stack.now c.requires d s h in
    let f : take c.index-known.result.now.base (scopes_of c.args.self.now) ≡ take c.index-known.result.now.base c.args.stack.now = base_front c.args.self.now (c.args.place + 1) c.index-known.result.now.base c.args.stack.now s w.base.within in
    let t : c.apply-style.result ≡ style_of c.args.highlighter.now c.args.stack.now
    = c.apply-style.ensures ∙ ap (λ m. restyled m c.get_default.result) (c.in_ok-modifier.ensures.value f h w) ∙ ap (restyled (winners c.args.highlighter.now c.args.stack.now)) c.get_default.ensures in
    rw c.self-2.view_is
    (style_kept c.args.highlighter.now c.modifier.new.self c.args.place k k c.args.stack.now c.apply-style.result (omega (arith, n, c.requires)) e (ap (take (c.args.place + 1)) c.in_ok-modifier.ensures.scopes ∙ s) t
    (c.in_ok-modifier.ensures.known f h))
