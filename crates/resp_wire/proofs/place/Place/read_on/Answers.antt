use Rattle.std.proofs.Common.{◌-◌, length, refl}
use Rattle.resp_wire.proofs.PlaceLaws.{sliced, place_waits, place_after, scan_finds}
use Rattle.resp_wire.proofs.place.Place.read_on.Goals as goal

pub returns-in-Some-clause-found : goal.returns-in-Some-clause-found
returns-in-Some-clause-found c = (place_waits c.args.limits.now c.args.bytes.now _ c.args.self.now c.in-Some.plain c.requires (sliced c.args.bytes.now c.args.self.now.position) c.in-Some.ensures.0 c.in-Some.ensures.1).1

pub returns-clause-place : goal.returns-clause-place
returns-clause-place c = place_after c.args.limits.now c.args.bytes.now _ c.scan-found.result.1.now c.args.self.now c.scan-found.new.counts _ (record {
  was = c.requires;
  rest_is = sliced c.args.bytes.now c.args.self.now.position;
  next_is = refl;
  few = c.scan-found.ensures.few;
  goes_on = c.scan-found.ensures.goes_on;
  front = c.scan-found.ensures.front;
})

pub returns-clause-found : goal.returns-clause-found
returns-clause-found c = scan_finds c.args.limits.now c.args.bytes.now _ c.scan-found.result.1.now c.args.self.now c.scan-found.new.counts _ c.scan-found.result.0 (record {
  was = c.requires;
  rest_is = sliced c.args.bytes.now c.args.self.now.position;
  next_is = refl;
  few = c.scan-found.ensures.few;
  goes_on = c.scan-found.ensures.goes_on;
  front = c.scan-found.ensures.front;
}) c.scan-found.ensures.comes_to
