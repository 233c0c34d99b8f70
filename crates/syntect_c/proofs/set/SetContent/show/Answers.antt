use Rattle.syntect_c.proofs.CallLaws.{linked_holds}
use Rattle.syntect_c.proofs.set.SetContent.show.Goals as goal

pub returns-in-Ok-clause-shown : goal.returns-in-Ok-clause-shown
returns-in-Ok-clause-shown c = λ loaded. record {
  assets = c.in-Linked.assets;
  linked = c.in-Linked.is;
  shows = c.in-Ok.ensures
      (linked_holds c.link.new.self.stage c.in-Linked.assets c.in-Linked.is
      (c.link.ensures.loaded loaded));
}
