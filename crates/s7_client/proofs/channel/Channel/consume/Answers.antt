use Rattle.std.proofs.Common.{refl}
use Rattle.s7_client.specs.declared.channel.Channel.{Channel}
use Rattle.s7_client.proofs.StepLemmas.{uses_front, opens_at, asks_at, message_short}
use Rattle.s7_client.proofs.StepLemmas.{consumes_more, consumes_open, consumes_message}
use Rattle.s7_client.proofs.StepLemmas.{consumes_disconnect, consumes_fault}
use Rattle.s7_client.proofs.channel.Channel.consume.Goals as goal

pub open-requires-clause-opening : goal.open-requires-clause-opening
open-requires-clause-opening c =
    let t = c.read-taken in
    let front = uses_front c.args.self.now t.new.self c.args.job.now c.as_slice.result.now c.advance.new.self
    t.result.octets t.result.found c.requires.fits c.requires.awaiting c.as_slice.ensures.octets c.advance.ensures
    t.ensures.taken t.ensures.some t.ensures.opening t.ensures.earliest t.ensures.found in
    opens_at c.args.self.now t.new.self c.args.job.now c.advance.new.self _ t.result.found _ c.requires.fits
    c.requires.awaiting front c.in-Opened.is

pub message-requires-clause-asking : goal.message-requires-clause-asking
message-requires-clause-asking c =
    let t = c.read-taken in
    let front = uses_front c.args.self.now t.new.self c.args.job.now c.as_slice.result.now c.advance.new.self
    t.result.octets t.result.found c.requires.fits c.requires.awaiting c.as_slice.ensures.octets c.advance.ensures
    t.ensures.taken t.ensures.some t.ensures.opening t.ensures.earliest t.ensures.found in
    asks_at c.args.self.now t.new.self c.args.job.now c.advance.new.self _ t.result.found c.requires.fits
    c.requires.awaiting front c.in-Message.is

pub message-requires-clause-most : goal.message-requires-clause-most
message-requires-clause-most c =
    let t = c.read-taken in
    let front = uses_front c.args.self.now t.new.self c.args.job.now c.as_slice.result.now c.advance.new.self
    t.result.octets t.result.found c.requires.fits c.requires.awaiting c.as_slice.ensures.octets c.advance.ensures
    t.ensures.taken t.ensures.some t.ensures.opening t.ensures.earliest t.ensures.found in
    message_short c.args.self.now t.new.self c.advance.new.self _ t.result.found front c.in-Message.is

pub returns-in-More : goal.returns-in-More
returns-in-More c =
    let t = c.read-taken in
    let l' : Channel = record { inbox = c.advance.new.self; talk = t.new.self } in
    let front = uses_front c.args.self.now t.new.self c.args.job.now c.as_slice.result.now c.advance.new.self
    t.result.octets t.result.found c.requires.fits c.requires.awaiting c.as_slice.ensures.octets c.advance.ensures
    t.ensures.taken t.ensures.some t.ensures.opening t.ensures.earliest t.ensures.found in
    consumes_more c.args.self.now l' c.args.job.now _ t.result.found c.args.config.now c.args.granted
    c.in-More.is c.requires.fits c.requires.awaiting c.requires.sent c.requires.unput front t.ensures.same

pub returns-in-Opened : goal.returns-in-Opened
returns-in-Opened c =
    let t = c.read-taken in
    let l' : Channel = record { inbox = c.advance.new.self; talk = c.open.new.self } in
    let front = uses_front c.args.self.now t.new.self c.args.job.now c.as_slice.result.now c.advance.new.self
    t.result.octets t.result.found c.requires.fits c.requires.awaiting c.as_slice.ensures.octets c.advance.ensures
    t.ensures.taken t.ensures.some t.ensures.opening t.ensures.earliest t.ensures.found in
    consumes_open c.args.self.now t.new.self l' c.args.job.now c.open.new.job _ t.result.found _
    c.args.config.now c.args.granted c.in-Opened.is c.requires.fits c.requires.awaiting c.requires.sent
    c.requires.unput front t.ensures.same (c.open.ensures.settles c.args.config.now) c.open.ensures.reaches

pub returns-in-Message : goal.returns-in-Message
returns-in-Message c =
    let t = c.read-taken in
    let l' : Channel = record { inbox = c.advance.new.self; talk = c.message.new.self } in
    let front = uses_front c.args.self.now t.new.self c.args.job.now c.as_slice.result.now c.advance.new.self
    t.result.octets t.result.found c.requires.fits c.requires.awaiting c.as_slice.ensures.octets c.advance.ensures
    t.ensures.taken t.ensures.some t.ensures.opening t.ensures.earliest t.ensures.found in
    consumes_message c.args.self.now t.new.self l' c.args.job.now c.message.new.job _ t.result.found
    c.args.config.now c.args.granted c.in-Message.is c.requires.fits c.requires.awaiting c.requires.sent
    c.requires.unput front t.ensures.same c.message.ensures.settles c.message.ensures.reaches

pub returns-in-Disconnected : goal.returns-in-Disconnected
returns-in-Disconnected c =
    let t = c.read-taken in
    let l' : Channel = record { inbox = c.advance.new.self; talk = t.new.self } in
    let front = uses_front c.args.self.now t.new.self c.args.job.now c.as_slice.result.now c.advance.new.self
    t.result.octets t.result.found c.requires.fits c.requires.awaiting c.as_slice.ensures.octets c.advance.ensures
    t.ensures.taken t.ensures.some t.ensures.opening t.ensures.earliest t.ensures.found in
    consumes_disconnect c.args.self.now l' c.args.job.now _ _ t.result.found c.args.config.now c.args.granted
    c.in-Disconnected.is c.requires.fits c.requires.awaiting c.requires.sent c.requires.unput front
    t.ensures.same c.fail.ensures.fails c.fail.ensures.over c.fail.ensures.job refl refl

pub returns-in-Fault : goal.returns-in-Fault
returns-in-Fault c =
    let t = c.read-taken in
    let l' : Channel = record { inbox = c.advance.new.self; talk = t.new.self } in
    let front = uses_front c.args.self.now t.new.self c.args.job.now c.as_slice.result.now c.advance.new.self
    t.result.octets t.result.found c.requires.fits c.requires.awaiting c.as_slice.ensures.octets c.advance.ensures
    t.ensures.taken t.ensures.some t.ensures.opening t.ensures.earliest t.ensures.found in
    consumes_fault c.args.self.now l' c.args.job.now _ _ t.result.found c.in-Fault.fault c.code_of-code.result
    c.args.config.now c.args.granted c.in-Fault.is c.requires.fits c.requires.awaiting c.requires.sent
    c.requires.unput front t.ensures.same c.code_of-code.ensures c.fail-in-Fault.ensures.fails
    c.fail-in-Fault.ensures.over c.fail-in-Fault.ensures.job refl refl
