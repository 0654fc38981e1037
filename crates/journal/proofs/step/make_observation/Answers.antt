-- `journal::step::make_observation` meets its contract. Assumes nothing.
use Rattle.std.proofs.Common.{rules}
use Rattle.control.specs.Judgement.Addition.{adds_learner, adds_joint, adds_uniform}
use Rattle.journal.proofs.MakerLaws.{addition_makes, addition_room}
use Rattle.journal.proofs.step.make_observation.Goals as goal

pub learner_table-requires : goal.learner_table-requires
learner_table-requires c = addition_room c.args.table c.args.body.now _ c.requires adds_learner (search rules)

pub returns-in-Ok-AddLearner : goal.returns-in-Ok-AddLearner
returns-in-Ok-AddLearner c =
    addition_makes c.args.table c.args.body.now _ c.requires adds_learner (search rules) c.cut_in.ensures c.learner_table.ensures

pub joint_table-requires : goal.joint_table-requires
joint_table-requires c = addition_room c.args.table c.args.body.now _ c.requires adds_joint (search rules)

pub returns-in-Ok-AddJoint : goal.returns-in-Ok-AddJoint
returns-in-Ok-AddJoint c =
    addition_makes c.args.table c.args.body.now _ c.requires adds_joint (search rules) c.cut_in-in-Ok-AddJoint.ensures c.joint_table.ensures

pub uniform_table-requires : goal.uniform_table-requires
uniform_table-requires c = addition_room c.args.table c.args.body.now _ c.requires adds_uniform (search rules)

pub returns-in-Ok-AddUniform : goal.returns-in-Ok-AddUniform
returns-in-Ok-AddUniform c =
    addition_makes c.args.table c.args.body.now _ c.requires adds_uniform (search rules) c.cut_in-in-Ok-AddUniform.ensures c.uniform_table.ensures
