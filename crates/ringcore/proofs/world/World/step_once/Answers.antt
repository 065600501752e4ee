-- Each arm is the step of the machine that its lemma is about
use Rattle.std.proofs.Common.{◌<◌, length, refl, subst, arith}
use Rattle.std.specs.Prelude.{◌^◌, vec_len}
use Rattle.ringcore_laws.specs.declared.protocol.Step.{Step}
use Rattle.ringcore_laws.specs.declared.protocol.Step.TheVariants.{Look, Room, Reserve, SettlePut, SettleTake, Stash, Unstash}
use Rattle.ringcore.specs.Runs.{IsOnRing}
use Rattle.ringcore.proofs.Planned.{plans_counted}
use Rattle.ringcore.proofs.WorldSteps.{goes_as, look_goes, room_goes, reserve_goes, put_goes, take_goes, stash_goes, unstash_goes}
use Rattle.ringcore.proofs.world.World.step_once.Goals as goal
use Rattle.ringcore.specs.Planned.{plans_of, world_rings}

pub returns-in-Look-clause-step : goal.returns-in-Look-clause-step
returns-in-Look-clause-step c = λ pool actors fits k agree.
    let old = c.args.self.now in
    let new = c.look_step.new.self in
    let within : c.args.actor < length old.members.items = omega (arith, c.requires.actor, old.members.ok.0) in
    let on : IsOnRing (vec_len old.rings) (Look c.in-Look.ring c.in-Look.side) =
    subst (λ (v : Step). IsOnRing (vec_len old.rings) v) c.in-Look.is c.requires.ring in
    let there : c.in-Look.ring < length (plans_of old) = omega (arith, on, plans_counted _ old.rings.items old.rings.ok.0) in
    goes_as (plans_of old) pool (world_rings old) old.places.items old.members.items actors c.args.actor fits k agree within
    (Look c.in-Look.ring c.in-Look.side) c.args.step
    c.look_step.result (world_rings old) (world_rings new) old.places.items new.places.items new.members.items new.members.items c.in-Look.is
    c.look_step.ensures.kept.0 c.look_step.ensures.places refl
    (look_goes (plans_of old) pool (world_rings old) old.places.items old.members.items actors c.args.actor fits k agree within c.in-Look.ring c.in-Look.side
    c.look_step.result new.members.items there c.look_step.ensures.member c.look_step.ensures.reply)

pub returns-in-Room-clause-step : goal.returns-in-Room-clause-step
returns-in-Room-clause-step c = λ pool actors fits k agree.
    let old = c.args.self.now in
    let new = c.room_step.new.self in
    let within : c.args.actor < length old.members.items = omega (arith, c.requires.actor, old.members.ok.0) in
    let on : IsOnRing (vec_len old.rings) (Room c.in-Room.ring c.in-Room.side) =
    subst (λ (v : Step). IsOnRing (vec_len old.rings) v) c.in-Room.is c.requires.ring in
    let there : c.in-Room.ring < length (plans_of old) = omega (arith, on, plans_counted _ old.rings.items old.rings.ok.0) in
    goes_as (plans_of old) pool (world_rings old) old.places.items old.members.items actors c.args.actor fits k agree within
    (Room c.in-Room.ring c.in-Room.side) c.args.step
    c.room_step.result (world_rings old) (world_rings new) old.places.items new.places.items new.members.items new.members.items c.in-Room.is
    c.room_step.ensures.kept.0 c.room_step.ensures.places refl
    (room_goes (plans_of old) pool (world_rings old) old.places.items old.members.items actors c.args.actor fits k agree within c.in-Room.ring c.in-Room.side
    c.room_step.result new.members.items there c.room_step.ensures.member c.room_step.ensures.reply)

pub returns-in-Reserve-clause-step : goal.returns-in-Reserve-clause-step
returns-in-Reserve-clause-step c = λ pool actors fits k agree.
    let old = c.args.self.now in
    let new = c.reserve_step.new.self in
    let within : c.args.actor < length old.members.items = omega (arith, c.requires.actor, old.members.ok.0) in
    let on : IsOnRing (vec_len old.rings) (Reserve c.in-Reserve.ring c.in-Reserve.side c.in-Reserve.how c.in-Reserve.count) =
    subst (λ (v : Step). IsOnRing (vec_len old.rings) v) c.in-Reserve.is c.requires.ring in
    let there : c.in-Reserve.ring < length (plans_of old) = omega (arith, on, plans_counted _ old.rings.items old.rings.ok.0) in
    goes_as (plans_of old) pool (world_rings old) old.places.items old.members.items actors c.args.actor fits k agree within
    (Reserve c.in-Reserve.ring c.in-Reserve.side c.in-Reserve.how c.in-Reserve.count) c.args.step
    c.reserve_step.result (world_rings new) (world_rings new) old.places.items new.places.items new.members.items new.members.items c.in-Reserve.is
    refl c.reserve_step.ensures.places refl
    (reserve_goes (plans_of old) pool (world_rings old) old.places.items old.members.items actors c.args.actor fits k agree within c.in-Reserve.ring
    c.in-Reserve.side
    c.in-Reserve.how c.in-Reserve.count c.reserve_step.result (world_rings new) new.members.items there c.reserve_step.ensures.member
    c.reserve_step.ensures.ring
    c.reserve_step.ensures.reply)

pub returns-in-SettlePut-clause-step : goal.returns-in-SettlePut-clause-step
returns-in-SettlePut-clause-step c = λ pool actors fits k agree.
    let old = c.args.self.now in
    let new = c.put_step.new.self in
    let within : c.args.actor < length old.members.items = omega (arith, c.requires.actor, old.members.ok.0) in
    let on : IsOnRing (vec_len old.rings) (SettlePut c.in-SettlePut.ring c.in-SettlePut.items) =
    subst (λ (v : Step). IsOnRing (vec_len old.rings) v) c.in-SettlePut.is c.requires.ring in
    let there : c.in-SettlePut.ring < length (plans_of old) = omega (arith, on, plans_counted _ old.rings.items old.rings.ok.0) in
    let small : length old.places.items < 2 ^ 64 = omega (arith, old.places.ok.0, old.places.ok.1, old.places.small) in
    goes_as (plans_of old) pool (world_rings old) old.places.items old.members.items actors c.args.actor fits k agree within
    (SettlePut c.in-SettlePut.ring c.in-SettlePut.items) c.args.step
    c.put_step.result (world_rings new) (world_rings new) new.places.items new.places.items new.members.items new.members.items c.in-SettlePut.is
    refl refl refl
    (put_goes (plans_of old) pool (world_rings old) old.places.items old.members.items actors c.args.actor fits k agree within c.in-SettlePut.ring
    c.in-SettlePut.items
    c.put_step.result (world_rings new) new.places.items new.members.items small there c.put_step.ensures.reply c.put_step.ensures.settled)

pub returns-in_ok-reply-in-SettleTake-clause-step : goal.returns-in_ok-reply-in-SettleTake-clause-step
returns-in_ok-reply-in-SettleTake-clause-step c = λ pool actors fits k agree.
    let old = c.args.self.now in
    let new = c.take_step.new.self in
    let within : c.args.actor < length old.members.items = omega (arith, c.requires.actor, old.members.ok.0) in
    let on : IsOnRing (vec_len old.rings) (SettleTake c.in-SettleTake.ring c.in-SettleTake.count) =
    subst (λ (v : Step). IsOnRing (vec_len old.rings) v) c.in-SettleTake.is c.requires.ring in
    let there : c.in-SettleTake.ring < length (plans_of old) = omega (arith, on, plans_counted _ old.rings.items old.rings.ok.0) in
    let small : length old.places.items < 2 ^ 64 = omega (arith, old.places.ok.0, old.places.ok.1, old.places.small) in
    goes_as (plans_of old) pool (world_rings old) old.places.items old.members.items actors c.args.actor fits k agree within
    (SettleTake c.in-SettleTake.ring c.in-SettleTake.count) c.args.step
    c.in_ok-reply-in-SettleTake.reply (world_rings new) (world_rings new) new.places.items new.places.items new.members.items new.members.items
    c.in-SettleTake.is
    refl refl refl
    (take_goes (plans_of old) pool (world_rings old) old.places.items old.members.items actors c.args.actor fits k agree within c.in-SettleTake.ring
    c.in-SettleTake.count
    c.in_ok-reply-in-SettleTake.reply (world_rings new) new.places.items new.members.items small there c.in_ok-reply-in-SettleTake.ensures.reply
    c.in_ok-reply-in-SettleTake.ensures.settled)

pub returns-in-Stash-clause-step : goal.returns-in-Stash-clause-step
returns-in-Stash-clause-step c = λ pool actors fits k agree.
    let old = c.args.self.now in
    let new = c.stash_step.new.self in
    let within : c.args.actor < length old.members.items = omega (arith, c.requires.actor, old.members.ok.0) in
    goes_as (plans_of old) pool (world_rings old) old.places.items old.members.items actors c.args.actor fits k agree within (Stash c.in-Stash.b) c.args.step
    c.stash_step.result (world_rings old) (world_rings new) new.places.items new.places.items old.members.items new.members.items c.in-Stash.is
    c.stash_step.ensures.kept.0 refl c.stash_step.ensures.members
    (stash_goes (plans_of old) pool (world_rings old) old.places.items old.members.items actors c.args.actor fits k agree within c.in-Stash.b
    c.stash_step.result
    new.places.items c.stash_step.ensures.reply c.stash_step.ensures.places)

pub returns-in-Unstash-clause-step : goal.returns-in-Unstash-clause-step
returns-in-Unstash-clause-step c = λ pool actors fits k agree.
    let old = c.args.self.now in
    let new = c.unstash_step.new.self in
    let within : c.args.actor < length old.members.items = omega (arith, c.requires.actor, old.members.ok.0) in
    goes_as (plans_of old) pool (world_rings old) old.places.items old.members.items actors c.args.actor fits k agree within (Unstash c.in-Unstash.b)
    c.args.step
    c.unstash_step.result (world_rings old) (world_rings new) new.places.items new.places.items old.members.items new.members.items c.in-Unstash.is
    c.unstash_step.ensures.kept.0 refl c.unstash_step.ensures.members
    (unstash_goes (plans_of old) pool (world_rings old) old.places.items old.members.items actors c.args.actor fits k agree within c.in-Unstash.b
    c.unstash_step.result
    new.places.items c.unstash_step.ensures.reply c.unstash_step.ensures.places)
