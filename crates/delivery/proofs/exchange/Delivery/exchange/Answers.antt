use Rattle.std.proofs.Common.{◌+◌}
use Rattle.delivery.specs.Follows.{Leads, LeadsOn}
use Rattle.delivery.proofs.exchange.Delivery.exchange.Goals as goal

pub returns : goal.returns
unfolding Leads LeadsOn
returns g c = record {
  leads = λ file before shut t d h.
      let sent = c.send_once.ensures.leads c.args.buffer.now file before shut t d h in
      let came = c.fetch_all-fetched.ensures.leads file before shut t _ sent in
      (came.0, c.hear_all.ensures.leads _ file before shut t _ came.1);
  small = λ n h. c.hear_all.ensures.small (n + 4) (c.fetch_all-fetched.ensures.small (n + 4) (c.send_once.ensures.small n h));
}
