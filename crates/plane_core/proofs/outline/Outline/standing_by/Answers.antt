use Rattle.plane_core.proofs.outline.Outline.standing_by.Goals as goal

pub returns-in-Lines-clause-part : goal.returns-in-Lines-clause-part
returns-in-Lines-clause-part c = λ p scan is. rw c.in-Lines.is (c.lines_standing.ensures.part c.args.self.now.ends.items c.args.self.now.edges.items p is scan)
