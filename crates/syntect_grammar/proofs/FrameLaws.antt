-- The turns of a walk, by the frames that the code keeps.
use Rattle.std.proofs.Common.{◌≡◌, ◌+◌, ◌<◌, ◌≤◌, List, [], ◌∷◌, ◌++◌, length, map, drop, Some, None, refl, ap, sym, ◌∙◌, subst}
use Rattle.std.proofs.lemmas.List.{drop_all}
use Rattle.syntect_grammar.specs.syntect_grammar_contexts.Contexts.{target}
use Rattle.syntect_grammar.specs.Walk.{FindsSame, frame, frame_of, entering}
use Rattle.syntect_grammar.specs.declared.walk.Frame.{Frame}
use Rattle.syntect_grammar.proofs.WalkLaws.{Visit, IsWalk, work, walk_begins, walk_pops, walk_takes, walk_passes, walk_enters, walk_ends, work_pops, work_passes, work_enters}
use Rattle.syntect_grammar.specs.Patterns.{entries, patterns_of}
use Rattle.syntect_grammar.specs.syntect_grammar_contexts.declared.context.ContextId.{ContextId}
use Rattle.syntect_grammar.specs.syntect_grammar_contexts.declared.context.ContextReference.{ContextReference}
use Rattle.syntect_grammar.specs.syntect_grammar_contexts.declared.context.MatchPattern.{MatchPattern}
use Rattle.syntect_grammar.specs.syntect_grammar_contexts.declared.context.Pattern.{Pattern}
use Rattle.syntect_grammar.specs.syntect_grammar_contexts.declared.context.Pattern.TheVariants.{Match, Include}
use Rattle.syntect_grammar.specs.declared.syntax_set.SyntaxSet.{SyntaxSet}

map_top : {X Y : Type 0} (f : X → Y) (xs : List X) (x : X) → map f (xs ++ x ∷ []) ≡ map f xs ++ f x ∷ []
map_top f [] x = refl
map_top f (y ∷ ys) x = ap (λ l. f y ∷ l) (map_top f ys x)

module _ (set : SyntaxSet) (root : ContextId) where
  abbrev frames : List Frame → List Visit
  frames fs = map (frame set) fs

  pub begins : (seen : List ContextId) (fs : List Frame) (out : List MatchPattern) → seen ≡ root ∷ [] → fs ≡ (record { id = root; next = 0 }) ∷ [] → out ≡ []
      → IsWalk set root seen (frames fs) out
  begins seen fs out e f g = rw (e, f, g) (walk_begins set root)

  -- the topmost frame, and those below it
  top_frame : (fs rest : List Frame) (top : Frame) (ps : List Pattern) → fs ≡ rest ++ top ∷ [] → drop top.next (entries set top.id) ≡ ps
      → frames fs ≡ frames rest ++ (top.id, ps) ∷ []
  top_frame fs rest top ps e f = ap (map (frame set)) e ∙ map_top (frame set) rest top ∙ ap (λ (l : List Pattern). frames rest ++ (top.id, l) ∷ []) f

  module _ (seen : List ContextId) (fs rest : List Frame) (top : Frame) (e : fs ≡ rest ++ top ∷ []) where
    pub pops : (out : List MatchPattern) → length (entries set top.id) ≤ top.next → IsWalk set root seen (frames fs) out → IsWalk set root seen (frames rest) out
    pops out n w =
        walk_pops set root seen (frames rest) top.id [] out refl
        (subst (λ (l : List Visit). IsWalk set root seen l out) (top_frame fs rest top [] e (drop_all top.next (entries set top.id) n)) w)

    pub pops_less : work set seen (frames rest) < work set seen (frames fs)
    pops_less =
        subst (λ (l : List Visit). work set seen (frames rest) < work set seen l) (sym (top_frame fs rest top (drop top.next (entries set top.id)) e refl))
        (work_pops set seen (frames rest) top.id (drop top.next (entries set top.id)))

    module _ (new : List Frame) (f : new ≡ rest ++ (record { id = top.id; next = top.next + 1 }) ∷ []) where
      next_frame : frames new ≡ frames rest ++ (top.id, drop (top.next + 1) (entries set top.id)) ∷ []
      next_frame = top_frame new rest (record { id = top.id; next = top.next + 1 }) (drop (top.next + 1) (entries set top.id)) f refl

      pub passes_less : (p : Pattern) → drop top.next (entries set top.id) ≡ p ∷ drop (top.next + 1) (entries set top.id) → work set seen (frames new) < work set seen (frames fs)
      passes_less p k =
          rw (next_frame, top_frame fs rest top (p ∷ drop (top.next + 1) (entries set top.id)) e k) (work_passes set seen (frames rest) top.id p (drop (top.next + 1) (entries set top.id)))

      pub takes : (m : MatchPattern) (out after : List MatchPattern) → drop top.next (entries set top.id) ≡ Match m ∷ drop (top.next + 1) (entries set top.id) → after ≡ out ++ m ∷ []
          → IsWalk set root seen (frames fs) out → IsWalk set root seen (frames new) after
      takes m out after k g w =
          rw (next_frame, g) (walk_takes set root seen (frames rest) top.id m (drop (top.next + 1) (entries set top.id)) out
          (subst (λ (l : List Visit). IsWalk set root seen l out) (top_frame fs rest top (Match m ∷ drop (top.next + 1) (entries set top.id)) e k) w))

      module _ (r : ContextReference) (k : drop top.next (entries set top.id) ≡ Include r ∷ drop (top.next + 1) (entries set top.id)) where
        pub passes : (out : List MatchPattern) → entering set seen (target r) ≡ None → IsWalk set root seen (frames fs) out → IsWalk set root seen (frames new) out
        passes out n w = rw next_frame (walk_passes set root seen (frames rest) top.id r (drop (top.next + 1) (entries set top.id)) out n
            (subst (λ (l : List Visit). IsWalk set root seen l out) (top_frame fs rest top (Include r ∷ drop (top.next + 1) (entries set top.id)) e k) w))

        module _ (id : ContextId) (n : entering set seen (target r) ≡ Some id) (after : List ContextId) (g : after ≡ seen ++ id ∷ []) (later : List Frame)
            (h : later ≡ new ++ (record { id = id; next = 0 }) ∷ []) where
          entered_frame : frames later ≡ (frames rest ++ (top.id, drop (top.next + 1) (entries set top.id)) ∷ []) ++ frame_of set id ∷ []
          entered_frame = top_frame later new (record { id = id; next = 0 }) (entries set id) h refl ∙ ap (λ (l : List Visit). l ++ frame_of set id ∷ []) next_frame

          pub enters : (out : List MatchPattern) → IsWalk set root seen (frames fs) out → IsWalk set root after (frames later) out
          enters out w = rw (g, entered_frame) (walk_enters set root seen (frames rest) top.id r (drop (top.next + 1) (entries set top.id)) out id n
              (subst (λ (l : List Visit). IsWalk set root seen l out) (top_frame fs rest top (Include r ∷ drop (top.next + 1) (entries set top.id)) e k) w))

          pub enters_less : work set after (frames later) < work set seen (frames fs)
          enters_less =
              rw (g, entered_frame, top_frame fs rest top (Include r ∷ drop (top.next + 1) (entries set top.id)) e k) (work_enters set seen (frames rest) top.id r (drop (top.next + 1) (entries set top.id)) id n)

  pub ends : (seen : List ContextId) (fs : List Frame) (out : List MatchPattern) → fs ≡ [] → IsWalk set root seen (frames fs) out → FindsSame out (patterns_of set root)
  ends seen fs out e w = walk_ends set root seen out (subst (λ (l : List Frame). IsWalk set root seen (frames l) out) e w)
