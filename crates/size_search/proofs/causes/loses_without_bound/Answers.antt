use Rattle.size_search.specs.Submitted.{by_client, by_job}
use Rattle.size_search.proofs.causes.loses_without_bound.Goals as goal

pub returns-in-Some-clause-loses : goal.returns-in-Some-clause-loses
returns-in-Some-clause-loses c = λ _. by_client c.in-Some.ensures.lost

pub returns-in-Some-lost_by_jobs-clause-loses : goal.returns-in-Some-lost_by_jobs-clause-loses
returns-in-Some-lost_by_jobs-clause-loses c = λ _. by_job c.in-Some-lost_by_jobs.ensures.lost
