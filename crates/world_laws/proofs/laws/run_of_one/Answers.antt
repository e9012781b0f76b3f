use Rattle.world_laws.proofs.Alone.{does_alone, posts_alone, serves_alone}
use Rattle.world_laws.proofs.laws.run_of_one.Goals as goal

pub returns-clause-does : goal.returns-clause-does
returns-clause-does c = does_alone

pub returns-clause-posts : goal.returns-clause-posts
returns-clause-posts c = posts_alone

pub returns-clause-serves : goal.returns-clause-serves
returns-clause-serves c = serves_alone
