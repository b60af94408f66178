use Rattle.std.proofs.Common.{◌≤◌, length, sym, refl, ◌∙◌, subst}
use Rattle.jobs.specs.Limits.{most_bytes}
use Rattle.jobs.proofs.Verdicts.{refused_one, job_accepted, job_one}
use Rattle.jobs.proofs.Widths.{job_fits}
use Rattle.jobs.proofs.reading.one_text.Goals as goal

pub returns : goal.returns
returns c = record {
  own_text = λ j i. ((refl, i), (job_fits j i).short);
  one_text = λ t u j p q. p.0 ∙ sym q.0;
  one_job = λ t i j p q. job_one t i j p.1.shaped q.1.shaped (job_fits i p.1).spelt (job_fits j q.1).spelt p.0 q.0;
  no_refusal = λ t j n k p r. job_accepted t j p.1 (job_fits j p.1).spelt (subst (λ x. length x ≤ most_bytes) (sym p.0) (job_fits j p.1).short) p.0 n k r;
  one_refusal = λ t n k m l p q. refused_one t n k m l p q;
}
