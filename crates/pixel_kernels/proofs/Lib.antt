mod Common
mod FormatLaws
