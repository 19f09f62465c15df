mod StartLaws
mod SizeLaws
