-- `uri_step::step` meets its contract: each stage's function is that stage's definition.
-- Assumes nothing.
use mathlib.Core.Path.{◌∙◌}
use Rattle.url_parser.specs.declared.Stage.TheVariants.{Credentials, Password, Host, Chunk, Port, Path, Params, Parameter}
use Rattle.url_parser.specs.Step.{stage_step}
use Rattle.url_parser.proofs.Branches.{at_stage}
use Rattle.uri_step.proofs.step.Goals as goal

pub returns-in-Credentials : goal.returns-in-Credentials
unfolding stage_step
returns-in-Credentials c =
    let a = c.args in c.parse_credentials.ensures ∙ at_stage a.s.now a.u Credentials c.in-Credentials.is

pub returns-in-Password : goal.returns-in-Password
unfolding stage_step
returns-in-Password c =
    let a = c.args in c.parse_password.ensures ∙ at_stage a.s.now a.u Password c.in-Password.is

pub returns-in-Host : goal.returns-in-Host
unfolding stage_step
returns-in-Host c =
    let a = c.args in c.parse_host.ensures ∙ at_stage a.s.now a.u Host c.in-Host.is

pub returns-in-Chunk : goal.returns-in-Chunk
unfolding stage_step
returns-in-Chunk c =
    let a = c.args in c.parse_chunk.ensures ∙ at_stage a.s.now a.u Chunk c.in-Chunk.is

pub returns-in-Port : goal.returns-in-Port
unfolding stage_step
returns-in-Port c =
    let a = c.args in c.parse_port.ensures ∙ at_stage a.s.now a.u Port c.in-Port.is

pub returns-in-Path : goal.returns-in-Path
unfolding stage_step
returns-in-Path c =
    let a = c.args in c.parse_path.ensures ∙ at_stage a.s.now a.u Path c.in-Path.is

pub returns-in-Params : goal.returns-in-Params
unfolding stage_step
returns-in-Params c =
    let a = c.args in c.parse_params.ensures ∙ at_stage a.s.now a.u Params c.in-Params.is

pub returns-in-Parameter : goal.returns-in-Parameter
unfolding stage_step
returns-in-Parameter c =
    let a = c.args in c.parse_parameter.ensures ∙ at_stage a.s.now a.u Parameter c.in-Parameter.is
