use Rattle.std.proofs.Common.{◌≡◌, ◌+◌, ◌-◌, ◌≤◌, ◌++◌, length, take, rules}
use Rattle.{std.specs.Prelude.replicate, device_rows.specs.{Block.unread, Failures.failed_by_read}}
use Rattle.device_rows.proofs.BlockFacts.{put-behind, read-on}
use Rattle.device_rows.proofs.block.Block.refill.Goals as goal

pub returns-in_default-clause-fault : goal.returns-in_default-clause-fault
returns-in_default-clause-fault g c = failed_by_read c.in_default.field-0

pub returns-clause-holds : goal.returns-clause-holds
returns-clause-holds g c bytes holds =
    let long : c.len-before.result ≡ length (unread c.args.self.now) = search rules in
    let ahead : c.deref_mut.result.now ≡ take (c.len-before.result + c.min-ahead.result) (unread c.args.self.now)
    ++ replicate (c.len-before.result + c.min-ahead.result - c.len-before.result) 0 = search rules in
    let few : c.in-Ok.count ≤ length c.read.new.buf = search rules in
    let fits : c.len-before.result + c.in-Ok.count ≤ c.resize.new.self.len = search rules in
    let items : c.truncate.new.self.items ≡ unread c.args.self.now ++ take c.in-Ok.count c.read.new.buf =
    put-behind (unread c.args.self.now) c.deref_mut.result.now _ c.read.new.buf _ _ c.truncate.new.self.items c.len-before.result
    c.min-ahead.result c.in-Ok.count c.resize.new.self.len long ahead few fits c.truncate.ensures.items in
    let (left, known, all) =
    read-on (unread c.args.self.now) (take c.in-Ok.count c.read.new.buf) c.truncate.new.self.items holds.behind bytes
    _ _ holds.known c.in-Ok.ensures.bytes.0 holds.all items in
    record { behind = left; known = known; all = all }
